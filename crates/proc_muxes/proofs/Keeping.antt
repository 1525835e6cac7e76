-- What each kind of step keeps.
use Rattle.proc_muxes.proofs.Common.{◌≡◌, ℕ, zero, suc, ◌<◌, Bool, true, false, ◌||◌, List, [], ◌∷◌, ◌++◌, take, drop, length, Option, Some, None, refl, sym, ◌∙◌, ap, subst, inl, inr, append_assoc}
use Rattle.proc_muxes.proofs.Common.{Span, Bit, CellKind, Mux, Put, first_token, Expr, Names, nothing, bits_of, Part, Vector, parts_of, part_vector, parts_width, places, written, Assigning, Test}
use Rattle.proc_muxes.proofs.Common.{Selection, Steps, Done, Assign, Choose, Case, Refuse, Arms, Otherwise, Arm, dont_care, Target, targets, arms_targets, part_targets, parts_targets, or-right}
use Rattle.proc_muxes.proofs.Common.{Building, Grows, AllBelow, fresh_bits, below_later, fresh_below, length_fresh, grows_not, grows_again, Work, held, with_held, AddsCell, Index, variable_index}
use Rattle.proc_muxes.proofs.Common.{BuildsIndex, BuildsIndices, PutsBits, PutsPart, PutsParts, BuildsAssign, BuildsBit, BuildsTest, stands, distinct, choice_of, choices, Chooses, ChoosesAll}
use Rattle.proc_muxes.proofs.Common.{restored, kept, mattering, BuildsEqual, BuildsLabel, BuildsMore, BuildsMatch, Builds, BuildsArms, Keeps}
use Rattle.proc_muxes.proofs.Bits.{length-written, below-written, below-take, below-drop}
use Rattle.proc_muxes.proofs.Frames.{known-append, stands-append, stands-distinct, keeps-same, keeps-grown, keeps-again, keeps-turned, keeps-restored, keeps-held, held-grown, stands-held}
use Rattle.proc_muxes.proofs.Frames.{signals-grown, nets-added}

-- Builders that grow.

pub grows-same : (a b : Building) → b ≡ a → Grows a b
grows-same a b e = subst (Grows a) (sym e) (grows_not a)

pub grows-index : (names : Names) (i : Option Index) (a b : Building) (index : List Bit) → BuildsIndex names i a b index → Grows a b
grows-index names None a b index f = grows-same a b f.0
grows-index names (Some i) a b index f = f.1.grows

pub grows-indices : (names : Names) (ps : List Part) (a b : Building) (indices : List (List Bit)) → BuildsIndices names ps a b indices → Grows a b
grows-indices names [] a b indices f = grows-same a b f.0
grows-indices names (p ∷ ps) a b indices f = grows_again a f.0 b (grows-index names (variable_index names p.select) a f.0 f.1 f.3) (grows-indices names ps f.0 b f.2 f.4)

pub grows-bit : (at : Span) (bits : List Bit) (a b : Building) (test : List Bit) → BuildsBit at bits a b test → Grows a b
grows-bit at bits a b test (inl f) = grows-same a b f.1
grows-bit at bits a b test (inr f) = f.1.0

pub grows-equal : (n : ℕ) (xs ys : List Bit) (at : Span) (a b : Building) (test : List Bit) → BuildsEqual n xs ys at a b test → Grows a b
grows-equal zero xs ys at a b test f = grows-same a b f.0
grows-equal (suc n) xs ys at a b test f = f.0.0

pub grows-label : (c : Selection) (selector : List Bit) (x : Expr) (a b : Building) (test : List Bit) → BuildsLabel c selector x a b test → Grows a b
grows-label c selector x a b test f =
    let ignored : List Bool = bits_of c.width (dont_care c.kind x) in
    grows_again a f.0 b f.2.grows (grows-equal (mattering ignored) (kept ignored selector) (kept ignored f.1) (first_token x) f.0 b test f.3)

pub grows-more : (c : Selection) (selector : List Bit) (xs : List Expr) (before : List Bit) (a b : Building) (test : List Bit) → BuildsMore c selector xs before a b test → Grows a b
grows-more c selector [] before a b test f = grows-same a b f.0
grows-more c selector (x ∷ more) before a b test f =
    grows_again a f.0 b (grows-label c selector x a f.0 f.2 f.3) (grows_again f.0 f.1 b f.4.0 (grows-more c selector more (fresh_bits f.0.nets 1) f.1 b test f.5))

pub grows-match : (c : Selection) (selector : List Bit) (xs : List Expr) (a b : Building) (test : List Bit) → BuildsMatch c selector xs a b test → Grows a b
grows-match c selector [] a b test f = absurd f
grows-match c selector (x ∷ more) a b test f = grows_again a f.0 b (grows-label c selector x a f.0 f.1 f.2) (grows-more c selector more f.1 f.0 b test f.3)

-- The next nets.

pub fresh-after : (a mid : Building) (kind : CellKind) (ports : List (List Bit)) (w : ℕ) (at : Span) → AddsCell kind ports w at a mid → AllBelow mid.nets (fresh_bits a.nets w)
fresh-after a mid kind ports w at f = subst (λ (b : Building). AllBelow b.nets (fresh_bits a.nets w)) (sym f.1) (fresh_below a.nets w)

-- a variable gets the bits of a new cell
pub keeps-cell : (x : Target) (kind : CellKind) (ports : List (List Bit)) (w : ℕ) (at : Span) (a : Work) (mid : Building) → x.number < length a.building.signals → w ≡ length (held a x.is_blocking x.number) → AddsCell kind ports w at a.building mid → Keeps (x ∷ []) a (with_held x.is_blocking x.number (fresh_bits a.building.nets w) (record a { building = mid }))
keeps-cell x kind ports w at a mid known wide f =
    let c : Work = record a { building = mid } in
    let to_c : Keeps [] a c = keeps-grown a mid f.0 in
    let known_c : x.number < length mid.signals = rw (signals-grown a.building mid f.0) known in
    let long : length (fresh_bits a.building.nets w) ≡ length (held c x.is_blocking x.number) = length_fresh a.building.nets w ∙ wide ∙ ap (λ (xs : List Bit). length xs) (sym (held-grown a mid x.is_blocking x.number f.0)) in
    keeps-again [] (x ∷ []) a c _ to_c (keeps-held x (fresh_bits a.building.nets w) c known_c long (λ h. fresh-after a.building mid kind ports w at f))

-- Assignments.

pub keeps-bits : (kind : Bool) (names : Names) (p : Part) (v : Vector) (bits index : List Bit) (i : Option Index) (a b : Work) → v.number < length a.building.signals → length (held a kind v.number) ≡ v.width → AllBelow a.building.nets bits → PutsBits kind names v p.select bits index i a b → Keeps (part_targets kind p (Some v)) a b
keeps-bits kind names p v bits index None a b known wide below f =
    let x : Target = record { number = v.number; width = v.width; place = p.name.span; is_blocking = kind } in
    let new : List Bit = written (held a kind v.number) (places names nothing v p.select) bits in
    subst (λ (w : Work). Keeps (x ∷ []) a w) (sym f) (keeps-held x new a known (length-written (held a kind v.number) (places names nothing v p.select) bits) (λ h. below-written a.building.nets (held a kind v.number) (places names nothing v p.select) bits (stands-held a kind v.number h) below))
keeps-bits kind names p v bits index (Some i) a b known wide below f =
    let x : Target = record { number = v.number; width = v.width; place = p.name.span; is_blocking = kind } in
    subst (λ (w : Work). Keeps (x ∷ []) a w) (sym f.3) (keeps-cell x Put (held a kind v.number ∷ index ∷ bits ∷ []) v.width i.place a f.1 known (sym wide) f.2)

pub keeps-part : (kind : Bool) (names : Names) (p : Part) (vec : Option Vector) (bits index : List Bit) (a b : Work) → AllBelow a.building.nets bits → PutsPart kind names p vec bits index a b → Keeps (part_targets kind p vec) a b
keeps-part kind names p None bits index a b below f = absurd f
keeps-part kind names p (Some v) bits index a b below f = keeps-bits kind names p v bits index (variable_index names p.select) a b f.0 f.1 below f.2

pub keeps-parts : (kind : Bool) (names : Names) (ps : List Part) (bits : List Bit) (indices : List (List Bit)) (a b : Work) → AllBelow a.building.nets bits → PutsParts kind names ps bits indices a b → Keeps (parts_targets kind names ps) a b
keeps-parts kind names [] bits indices a b below e = subst (λ (w : Work). Keeps [] a w) (sym e) (keeps-same a)
keeps-parts kind names (p ∷ ps) bits [] a b below f = absurd f
keeps-parts kind names (p ∷ ps) bits (index ∷ indices) a b below f =
    let rest : ℕ = parts_width names ps in
    let first : Keeps (parts_targets kind names ps) a f.0 = keeps-parts kind names ps (take rest bits) indices a f.0 (below-take a.building.nets rest bits below) f.1 in
    let below_m : AllBelow f.0.building.nets (drop rest bits) = below_later a.building.nets f.0.building.nets (drop rest bits) (nets-added a.building f.0.building first.adds) (below-drop a.building.nets rest bits below) in
    keeps-turned (parts_targets kind names ps) (part_targets kind p (part_vector names p)) a b
    (keeps-again (parts_targets kind names ps) (part_targets kind p (part_vector names p)) a f.0 b first (keeps-part kind names p (part_vector names p) (drop rest bits) index f.0 b below_m f.2))

pub assigned-grows : (s : Assigning) (a b : Work) (f : BuildsAssign s a b) → Grows a.building f.1
assigned-grows s a b f = grows_again a.building f.0 f.1 f.4.grows (grows-indices s.names (parts_of s.left) f.0 f.1 f.3 f.5)

pub assigned-below : (s : Assigning) (a b : Work) (f : BuildsAssign s a b) → AllBelow f.1.nets (take (parts_width s.names (parts_of s.left)) f.2)
assigned-below s a b f =
    let w : ℕ = parts_width s.names (parts_of s.left) in
    let m : Work = record a { building = f.0 } in
    let g : Grows f.0 f.1 = grows-indices s.names (parts_of s.left) f.0 f.1 f.3 f.5 in
    below_later f.0.nets f.1.nets (take w f.2) (nets-added f.0 f.1 (keeps-grown m f.1 g).adds) (below-take f.0.nets w f.2 f.4.below)

pub keeps-assign : (s : Assigning) (a b : Work) → BuildsAssign s a b → Keeps (parts_targets s.is_blocking s.names (parts_of s.left)) a b
keeps-assign s a b f =
    let ps : List Part = parts_of s.left in
    let w : ℕ = parts_width s.names ps in
    let m : Work = record a { building = f.1 } in
    keeps-again [] (parts_targets s.is_blocking s.names ps) a m b (keeps-grown a f.1 (assigned-grows s a b f)) (keeps-parts s.is_blocking s.names ps (take w f.2) f.3 m b (assigned-below s a b f) f.6)

-- Conditions.

pub keeps-test : (c : Test) (a b : Work) (test : List Bit) → BuildsTest c a b test → Keeps [] a b
keeps-test c a b test f =
    subst (λ (w : Work). Keeps [] a w) (sym f.5) (keeps-grown a f.1 (grows_again a.building f.0 f.1 f.3.grows (grows-bit (first_token c.condition) f.2 f.0 f.1 test f.4)))

-- Choices.

pub keeps-choice : (at : Span) (test : List Bit) (y : Work) (x : Target) (a b : Work) → Chooses at test (choice_of y x) a b → Keeps (x ∷ []) a b
keeps-choice at test y x a b f =
    let w : ℕ = length (held a x.is_blocking x.number) in
    subst (λ (z : Work). Keeps (x ∷ []) a z) (sym f.4) (keeps-cell x Mux (test ∷ held a x.is_blocking x.number ∷ held y x.is_blocking x.number ∷ []) w at a f.2 f.0 refl f.3)

pub keeps-choices : (at : Span) (test : List Bit) (y : Work) (ks : List Target) (a b : Work) → ChoosesAll at test (choices y ks) a b → Keeps ks a b
keeps-choices at test y [] a b e = subst (λ (w : Work). Keeps [] a w) (sym e) (keeps-same a)
keeps-choices at test y (x ∷ more) a b f = keeps-again (x ∷ []) more a f.0 b (keeps-choice at test y x a f.0 f.1) (keeps-choices at test y more f.0 b f.2)

pub keeps-both : (at : Span) (test : List Bit) (ps qs : List Target) (t y n m : Work) → Keeps ps t y → Keeps qs (restored t y) n → ChoosesAll at test (choices y (distinct (ps ++ qs))) n m → Keeps (ps ++ qs) t m
keeps-both at test ps qs t y n m p q f =
    let to_n : Keeps qs t n = keeps-again [] qs t (restored t y) n (keeps-restored ps t y p) q in
    let k : Keeps (distinct (ps ++ qs)) n m = keeps-choices at test y (distinct (ps ++ qs)) n m f in
    let all : Keeps (qs ++ distinct (ps ++ qs)) t m = keeps-again qs (distinct (ps ++ qs)) t n m to_n k in
    record {
      adds = all.adds;
      seen_wide = all.seen_wide;
      later_wide = all.later_wide;
      below = all.below;
      known = known-append (length t.building.signals) ps qs p.known q.known;
      seen_kept = λ j e.
          let both : (stands true ps j || stands true qs j) ≡ false = sym (stands-append true ps qs j) ∙ e in
          k.seen_kept j (stands-distinct true (ps ++ qs) j ∙ e) ∙ to_n.seen_kept j (or-right (stands true ps j) (stands true qs j) both);
      later_kept = λ j e.
          let both : (stands false ps j || stands false qs j) ≡ false = sym (stands-append false ps qs j) ∙ e in
          k.later_kept j (stands-distinct false (ps ++ qs) j ∙ e) ∙ to_n.later_kept j (or-right (stands false ps j) (stands false qs j) both);
    }

mutual
  pub keeps : (steps : Steps) (a b : Work) → Builds steps a b → Keeps (targets steps) a b
  keeps Done a b e = subst (λ (w : Work). Keeps [] a w) (sym e) (keeps-same a)
  keeps (Assign s more) a b f = keeps-again (parts_targets s.is_blocking s.names (parts_of s.left)) (targets more) a f.0 b (keeps-assign s a f.0 f.1) (keeps more f.0 b f.2)
  keeps (Choose at c then_part else_part more) a b f =
      let t : Work = f.0 in
      let y : Work = f.1 in
      let n : Work = f.2 in
      let m : Work = f.3 in
      let ps : List Target = targets then_part in
      let qs : List Target = targets else_part in
      let both : Keeps (ps ++ qs) t m = keeps-both at f.4 ps qs t y n m (keeps then_part t y f.6) (keeps else_part (restored t y) n f.7) f.8 in
      let all : Keeps ((ps ++ qs) ++ targets more) a b = keeps-again [] ((ps ++ qs) ++ targets more) a t b (keeps-test c a t f.4 f.5) (keeps-again (ps ++ qs) (targets more) t m b both (keeps more m b f.9)) in
      subst (λ (ts : List Target). Keeps ts a b) (append_assoc ps qs (targets more)) all
  keeps (Case c arms bodies more) a b f =
      let m : Work = record a { building = f.0 } in
      keeps-again [] (arms_targets arms ++ targets more) a m b (keeps-grown a f.0 f.3.grows) (keeps-again (arms_targets arms) (targets more) m f.1 b (keeps-arms c f.2 arms m f.1 f.4) (keeps more f.1 b f.5))
  keeps (Refuse x more) a b f = absurd f

  pub keeps-arms : (c : Selection) (selector : List Bit) (arms : Arms) (a b : Work) → BuildsArms c selector arms a b → Keeps (arms_targets arms) a b
  keeps-arms c selector (Otherwise body) a b f = keeps body a b f
  keeps-arms c selector (Arm at labels body others) a b f =
      let t : Work = record a { building = f.0 } in
      let y : Work = f.1 in
      let n : Work = f.2 in
      let ps : List Target = targets body in
      let qs : List Target = arms_targets others in
      keeps-again [] (ps ++ qs) a t b (keeps-grown a f.0 (grows-match c selector labels a.building f.0 f.3 f.4))
      (keeps-both at f.3 ps qs t y n b (keeps body t y f.5) (keeps-arms c selector others (restored t y) n f.6) f.7)
