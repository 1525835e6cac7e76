-- Variables get their own bits again, and these are joined to others.
use Rattle.process_cells.proofs.Common.{◌≡◌, ℕ, suc, ◌+◌, ◌<◌, List, [], ◌∷◌, ◌++◌, map, length, slice_get, Some, refl, sym, ap, ◌∙◌, subst, inl, inr, arith, append-nil, append_assoc, Contains}
use Rattle.process_cells.proofs.Common.{length-set, eqb_tells, Bit, Fixed, Net, Joint, Building, signal, with_signal, HasOwnNets, AreJoints, AllJoin, places_from, whole, with_joints, nets_in}
use Rattle.process_cells.proofs.Common.{signal-with, Kept, AllKnown, kept_of, all_kept, joints_of, rejoined, all_rejoined, AllReturn, has_none, has_cases}
use Rattle.netlist_core.specs.Checked.{AllNets}

-- the signal that was set, and all others
pub set_same : (b : Building) (k n : ℕ) (bits : List Bit) → k < length b.signals → k ≡ n → signal (with_signal k bits b) n ≡ bits
set_same b k n bits known same = signal-with b k n bits known ∙ elim (eqb_tells n k) [ inl h ↦ rw h.0 refl | inr h ↦ absurd (h.1 (sym same)) ]

pub set_still : (b : Building) (k n : ℕ) (bits old : List Bit) → k < length b.signals → (k ≡ n → bits ≡ old) → signal b n ≡ old → signal (with_signal k bits b) n ≡ old
set_still b k n bits old known same still = signal-with b k n bits known ∙ elim (eqb_tells n k) [ inl h ↦ rw h.0 (same (sym h.1)) | inr h ↦ rw h.0 still ]

-- What returns can return later.

return_one : (own : Kept) (js : List Joint) (b : Building) (n : ℕ) → own.number < length b.signals → length own.bits ≡ length (signal b own.number) → length (signal (with_joints (with_signal own.number own.bits b) js) n) ≡ length (signal b n)
return_one own js b n known wide = ap length (signal-with b own.number n own.bits known) ∙ elim (eqb_tells n own.number) [ inl h ↦ rw (h.0, h.1) wide | inr h ↦ rw h.0 refl ]

return_later : (own : Kept) (js : List Joint) (b : Building) (owns : List Kept) → own.number < length b.signals → length own.bits ≡ length (signal b own.number) → AllReturn b owns → AllReturn (with_joints (with_signal own.number own.bits b) js) owns
return_later own js b [] known wide h = tt
return_later own js b (o ∷ owns) known wide h = (
  subst (λ (n : ℕ). o.number < n) (sym (length-set b.signals own.number own.bits)) h.0,
  h.1 ∙ sym (return_one own js b o.number known wide),
  return_later own js b owns known wide h.2,
)

pub return_rejoined : (own : Kept) (b set new : Building) (bits slice : List Bit) (js : List Joint) → own.number < length b.signals → length own.bits ≡ length (signal b own.number) → slice ≡ own.bits → bits ≡ slice → set ≡ with_signal own.number bits b → new ≡ with_joints set js → (owns : List Kept) → AllReturn b owns → AllReturn new owns
return_rejoined own b set new bits slice js known wide e f g i owns h =
    let is : new ≡ with_joints (with_signal own.number own.bits b) js = i ∙ ap (λ (x : Building). with_joints x js) (g ∙ ap (λ (l : List Bit). with_signal own.number l b) (f ∙ e)) in
    subst (λ (x : Building). AllReturn x owns) (sym is) (return_later own js b owns known wide h)

-- Joints of one variable.

are_joints : (old : Building) (k i : ℕ) (own lasts : List Bit) → AllNets own → length own ≡ length lasts → ((j : ℕ) (x : Bit) → slice_get own j ≡ Some x → slice_get (signal old k) (i + j) ≡ Some x) → AreJoints old (places_from k i (length own)) lasts (joints_of own lasts)
are_joints old k i [] lasts nets long at = tt
are_joints old k i (Fixed v ∷ own) lasts nets long at = absurd nets
are_joints old k i (Net n ∷ own) [] nets long at = absurd (omega arith)
are_joints old k i (Net n ∷ own) (x ∷ lasts) nets long at = (
  (let e : i + 0 ≡ i = omega arith in subst (λ (m : ℕ). slice_get (signal old k) m ≡ Some (Net n)) e (at 0 (Net n) refl)),
  refl,
  are_joints old k (suc i) own lasts nets (omega arith) (λ j y is. (let e : i + suc j ≡ suc i + j = omega arith in subst (λ (m : ℕ). slice_get (signal old k) m ≡ Some y) e (at (suc j) y is))),
)

whole_joints : (old : Building) (k : ℕ) (lasts : List Bit) → HasOwnNets old → length (signal old k) ≡ length lasts → AreJoints old (whole old k) lasts (joints_of (signal old k) lasts)
whole_joints old k lasts own long =
    are_joints old k 0 (signal old k) lasts (nets_in old.signals k own.nets) long (λ j x is. (let e : j ≡ 0 + j = omega arith in subst (λ (m : ℕ). slice_get (signal old k) m ≡ Some x) e is))

-- All variables.

-- as many bits as the variables have
abbrev pub AreLong : Building → List ℕ → List Kept → Type 0
AreLong old [] lasts = lasts ≡ []
AreLong old (k ∷ ks) [] = ⊥
AreLong old (k ∷ ks) (last ∷ lasts) = (length (signal old k) ≡ length last.bits) × AreLong old ks lasts

-- the variables have their own bits, and those that had them keep them
pub record Returned (old : Building) (ks : List ℕ) (lasts : List Kept) (c d : Building) : Type 0 where
  pub joints : List Joint
  pub is : d ≡ record c { joints = c.joints ++ joints; signals = d.signals }
  pub join : AllJoin old ks (map (λ (x : Kept). x.bits) lasts) joints
  pub count : length d.signals ≡ length c.signals
  pub there : (n : ℕ) → Contains ks n → signal d n ≡ signal old n
  pub still : (n : ℕ) → signal c n ≡ signal old n → signal d n ≡ signal old n

pub returned : (old : Building) (ks : List ℕ) (lasts : List Kept) (c : Building) → HasOwnNets old → AllKnown (length c.signals) ks → AreLong old ks lasts → Returned old ks lasts c (all_rejoined (all_kept old ks) lasts c)
returned old [] lasts c own known long = record {
  joints = [];
  is = ap (λ (js : List Joint). record c { joints = js }) (sym (append-nil c.joints));
  join = refl;
  count = refl;
  there = λ n has. absurd (has_none n has);
  still = λ n same. same;
}
returned old (k ∷ ks) [] c own known long = absurd long
returned old (k ∷ ks) (last ∷ lasts) c own known long =
    let first : List Joint = joints_of (signal old k) last.bits in
    let c1 : Building = rejoined (kept_of old k) last.bits c in
    let count : length c1.signals ≡ length c.signals = length-set c.signals k (signal old k) in
    let rest : Returned old ks lasts c1 (all_rejoined (all_kept old ks) lasts c1) = returned old ks lasts c1 own (subst (λ (n : ℕ). AllKnown n ks) (sym count) known.1) long.1 in
    let d : Building = all_rejoined (all_kept old ks) lasts c1 in
    record {
      joints = first ++ rest.joints;
      is = rest.is ∙ ap (λ (js : List Joint). record c { joints = js; signals = d.signals }) (append_assoc c.joints first rest.joints);
      join = (first, rest.joints, refl, whole_joints old k last.bits own long.0, rest.join);
      count = rest.count ∙ count;
      there = λ n has. elim (has_cases ks k n has) [
        | inl same ↦ rest.still n (set_same c k n (signal old k) known.0 same ∙ ap (signal old) same)
        | inr later ↦ rest.there n later
      ];
      still = λ n same. rest.still n (set_still c k n (signal old k) (signal old n) known.0 (λ e. ap (signal old) e) same);
    }
