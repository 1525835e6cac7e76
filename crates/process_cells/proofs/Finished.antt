-- What stands after the statements of a combinational process were built, and after its variables were joined.
use Rattle.process_cells.proofs.Common.{◌≡◌, ◌⊎◌, ℕ, Bool, true, false, ◌&&◌, List, [], ◌∷◌, ◌++◌, map, length, nat_eq, refl, sym, ap, ◌∙◌, subst, inl, inr, ext_get_or, Contains, false≢true, or_cases}
use Rattle.process_cells.proofs.Common.{eqb_tells, Bit, Stmt, Names, bit_same, steps_of, Target, targets, Building, Grows, AllBelow, PortsBelow, signal, Stands, AllJoin, with_joints, join_of}
use Rattle.process_cells.proofs.Common.{cells_extend, own_stays, Change, stands, distinct, Keeps, StandsBelow, work, Built, stands-distinct, keeps, Kept, AllKnown, variables, given_own, blank}
use Rattle.process_cells.proofs.Common.{last_seen, all_kept, all_rejoined, AllReturn, Combines, HasPlaces, has_first, has_more, has_none, has_cases, exact_unsigned_eq}
use Rattle.vlog_effects.proofs.Bools.{and-left}
use Rattle.flat_runs.proofs.Joining.{variables_stand}
use Rattle.process_cells.proofs.Accepted.{accepted_blocking}
use Rattle.process_cells.proofs.Adding.{grown}
use Rattle.process_cells.proofs.Begun.{Given, known_variables, blank_stands}
use Rattle.process_cells.proofs.Blanking.{blank_count, blank_is, blank_wide, blank_other}
use Rattle.process_cells.proofs.Rejoining.{AreLong, Returned, returned}

-- the number is among these, or not
find : (ks : List ℕ) (n : ℕ) → Contains ks n ⊎ (Contains ks n → ⊥)
find [] n = inr (λ has. has_none n has)
find (k ∷ ks) n = elim (eqb_tells k n) [
  | inl e ↦ inl (subst (λ (m : ℕ). Contains (k ∷ ks) m) e.1 (has_first ks k))
  | inr e ↦ elim (find ks n) [
    | inl has ↦ inl (has_more ks k n has)
    | inr not ↦ inr (λ has. elim (has_cases ks k n has) [ inl same ↦ e.1 same | inr later ↦ not later ])
  ]
]

pub stands_contains : (kind : Bool) (ts : List Target) (n : ℕ) → stands kind ts n ≡ true → Contains (map (λ x. x.number) ts) n
stands_contains kind [] n e = absurd (false≢true e)
stands_contains kind (x ∷ more) n e = elim (or_cases (nat_eq x.number n && bit_same kind x.is_blocking) (stands kind more n) e) [
  | inl here ↦ subst (λ (m : ℕ). Contains (map (λ y. y.number) (x ∷ more)) m) (exact_unsigned_eq x.number n (and-left (nat_eq x.number n) (bit_same kind x.is_blocking) here)) (has_first (map (λ y. y.number) more) x.number)
  | inr later ↦ has_more (map (λ y. y.number) more) x.number n (stands_contains kind more n later)
]

not_standing : (ts : List Target) (n : ℕ) → (Contains (map (λ x. x.number) (distinct ts)) n → ⊥) → stands true ts n ≡ false
not_standing ts n not = go (stands true (distinct ts) n) refl
  where
    go : (b : Bool) → stands true (distinct ts) n ≡ b → stands true ts n ≡ false
    go true e = absurd (not (stands_contains true (distinct ts) n e))
    go false e = sym (stands-distinct true ts n) ∙ e

all_return : (old b : Building) (ks : List ℕ) → AllKnown (length b.signals) ks → ((n : ℕ) → length (signal b n) ≡ length (signal old n)) → AllReturn b (all_kept old ks)
all_return old b [] known wide = tt
all_return old b (k ∷ ks) known wide = (known.0, sym (wide k), all_return old b ks known.1 wide)

all_long : (old b : Building) (ks : List ℕ) → ((n : ℕ) → length (signal b n) ≡ length (signal old n)) → AreLong old ks (all_kept b ks)
all_long old b [] wide = refl
all_long old b (k ∷ ks) wide = (sym (wide k), all_long old b ks wide)

lasts_are : (b : Building) (ks : List ℕ) → map (λ (x : Kept). x.bits) (all_kept b ks) ≡ map (signal b) ks
lasts_are b [] = refl
lasts_are b (k ∷ ks) = ap (λ (l : List (List Bit)). signal b k ∷ l) (lasts_are b ks)

ports_below : (n : ℕ) (b : Building) (ks : List ℕ) → ((k : ℕ) → AllBelow n (signal b k)) → PortsBelow n (map (signal b) ks)
ports_below n b [] h = tt
ports_below n b (k ∷ ks) h = (h k, ports_below n b ks h)

module _ (names : Names) (s : Stmt) (old begun done : Building) (before after : List (List Bit)) (changes : List Change) (g : Given true names s old before) (is : begun ≡ blank (variables (steps_of s names)) old) (built : Built (steps_of s names) (work begun before) (work done after) changes) where
  kept : Keeps (targets (steps_of s names)) (work begun before) (work done after)
  kept = keeps (steps_of s names) (work begun before) (work done after) built.builds

  count : length done.signals ≡ length old.signals
  count = kept.adds.count ∙ ap (λ (b : Building). length b.signals) is ∙ blank_count (variables (steps_of s names)) old

  wide : (n : ℕ) → length (signal done n) ≡ length (signal old n)
  wide n = kept.seen_wide n ∙ ap (λ (b : Building). length (signal b n)) is ∙ blank_wide (variables (steps_of s names)) old n (known_variables names s old before g)

  pub known_after : AllKnown (length done.signals) (variables (steps_of s names))
  known_after = subst (λ (n : ℕ). AllKnown n (variables (steps_of s names))) (sym count) (known_variables names s old before g)

  pub return_after : AllReturn done (all_kept old (variables (steps_of s names)))
  return_after = all_return old done (variables (steps_of s names)) known_after wide

  back : Returned old (variables (steps_of s names)) (all_kept done (variables (steps_of s names))) done (all_rejoined (all_kept old (variables (steps_of s names))) (all_kept done (variables (steps_of s names))) done)
  back = returned old (variables (steps_of s names)) (all_kept done (variables (steps_of s names))) done g.own known_after (all_long old done (variables (steps_of s names)) wide)

  other : (n : ℕ) → (Contains (variables (steps_of s names)) n → ⊥) → signal done n ≡ signal old n
  other n not =
      kept.seen_kept n (not_standing (targets (steps_of s names)) n not)
      ∙ ap (λ (b : Building). signal b n) is ∙ blank_other (variables (steps_of s names)) old n (known_variables names s old before g) not

  grows : Grows old (given_own old (work done after))
  grows = grown old (work done after) begun (is ∙ blank_is (variables (steps_of s names)) old ∙ ap (λ (b : Building). record old { signals = b.signals }) (sym is)) kept.adds

  stood : StandsBelow (work done after)
  stood = kept.below (subst (λ (b : Building). StandsBelow (work b before)) (sym is) (blank_stands (variables (steps_of s names)) old before (known_variables names s old before g) g.own g.places))

  module _ (new : Building) (last : new ≡ all_rejoined (all_kept old (variables (steps_of s names))) (all_kept done (variables (steps_of s names))) done) where
    signals_are : new.signals ≡ old.signals
    signals_are = ext_get_or [] new.signals old.signals (ap (λ (b : Building). length b.signals) last ∙ back.count ∙ count) (λ i h. ap (λ (b : Building). signal b i) last ∙ at i (find (variables (steps_of s names)) i))
      where
        at : (i : ℕ) → Contains (variables (steps_of s names)) i ⊎ (Contains (variables (steps_of s names)) i → ⊥) → signal (all_rejoined (all_kept old (variables (steps_of s names))) (all_kept done (variables (steps_of s names))) done) i ≡ signal old i
        at i (inl has) = back.there i has
        at i (inr not) = back.still i (other i not)

    new_is : new ≡ with_joints (given_own old (work done after)) back.joints
    new_is =
        last ∙ back.is ∙ ap (λ (ss : List (List Bit)). record done { joints = done.joints ++ back.joints; signals = ss }) (sym (ap (λ (b : Building). b.signals) last) ∙ signals_are)

    join : AllJoin old (variables (steps_of s names)) (last_seen (work done after) (variables (steps_of s names))) back.joints
    join = subst (λ (l : List (List Bit)). AllJoin old (variables (steps_of s names)) l back.joints) (lasts_are done (variables (steps_of s names))) back.join

    pub combines : Combines (steps_of s names) old new
    combines = record { begun = work begun before; done = work done after; joints = back.joints; blocking = accepted_blocking g.accepted.0 (steps_of s names) g.accepted.1; blank_is = is; built = built.builds; joined = join; is = new_is }

    pub stands_after : Stands old → Stands new
    stands_after stands =
        let mid : Building = given_own old (work done after) in
        let e = cells_extend old mid stands grows in
        subst Stands (sym new_is)
        (variables_stand mid (variables (steps_of s names)) (last_seen (work done after) (variables (steps_of s names))) back.joints (own_stays old mid g.own refl e.0.nets) e.1 (ports_below done.nets done (variables (steps_of s names)) stood.seen)
        (join_of old mid (variables (steps_of s names)) (last_seen (work done after) (variables (steps_of s names))) back.joints refl join))

    pub places_after : length after ≡ length done.signals → HasPlaces new after
    places_after same = record {
      count = same ∙ count ∙ sym (ap length signals_are);
      below = λ n. subst (λ (m : ℕ). AllBelow m ((work done after).pending n)) (sym (ap (λ (b : Building). b.nets) new_is)) (stood.later n);
    }

-- what the code's lists are
pub last_is : (old done new : Building) (ks numbers : List ℕ) (owns own_items lasts last_items : List Kept) → numbers ≡ ks → own_items ≡ all_kept old numbers → owns ≡ own_items → last_items ≡ all_kept done numbers → lasts ≡ last_items → new ≡ all_rejoined owns lasts done → new ≡ all_rejoined (all_kept old ks) (all_kept done ks) done
last_is old done new ks numbers owns own_items lasts last_items e f g h i is =
    is ∙ ap (λ (l : List Kept). all_rejoined l lasts done) (g ∙ f ∙ ap (all_kept old) e) ∙ ap (λ (l : List Kept). all_rejoined (all_kept old ks) l done) (i ∙ h ∙ ap (all_kept done) e)
