-- Giving back what variables had, and the muxes of a choice.
use Rattle.proc_muxes.proofs.Common.{length-set, map-append, ◌≡◌, ℕ, Bool, true, false, ◌&&◌, ◌||◌, List, [], ◌∷◌, ◌++◌, drop, length, nat_eq, refl, sym, ◌∙◌, ap, subst, append-nil, ext_get_or}
use Rattle.proc_muxes.proofs.Common.{if◌then◌else◌, Span, Bit, Test, Steps, Done, Choose, bit_same, Target, targets, and-left, and-right, or-right, AllBelow, below_later, Change, Choice, Work, held}
use Rattle.proc_muxes.proofs.Common.{with_held, choice_of, choices, ChoosesAll, restored, stands, distinct_after, distinct, BuildsTest, Known, Keeps, change_of, changes_of, joined, all_have, all_had}
use Rattle.proc_muxes.proofs.Common.{CanHave, FitsChange, AllFit, AllChoicesFit, given_back, chosen, Built, exact_unsigned_eq}
use Rattle.proc_muxes.proofs.Frames.{known-distinct, stands-distinct, bit_same-true, keeps-widths, nets-added, keeps-held}
use Rattle.proc_muxes.proofs.Keeping.{keeps, keeps-test}
use Rattle.proc_muxes.proofs.Simulates.{held-with}
use Rattle.proc_muxes.proofs.Joining.{seen_after, distinct-append, stands-after, changes-both, changes-joined, keeps-still}

-- What fits stays fit.

pub can-still : (ts : List Target) (a b : Work) (kind : Bool) (n : ℕ) (bits : List Bit) → Keeps ts a b → CanHave a kind n bits → CanHave b kind n bits
can-still ts a b kind n bits k h = record {
  known = rw k.adds.count h.known;
  long = h.long ∙ sym (keeps-widths ts a b k kind n);
  some = h.some;
  narrow = h.narrow;
  below = below_later a.building.nets b.building.nets bits (nets-added a.building b.building k.adds) h.below;
}

pub fit-still : (ts : List Target) (a b : Work) (cs : List Change) → Keeps ts a b → AllFit a cs → AllFit b cs
fit-still ts a b [] k h = tt
fit-still ts a b (c ∷ more) k h = (can-still ts a b c.is_blocking c.number c.before k h.0, fit-still ts a b more k h.1)

pub choices-still : (ts : List Target) (a b : Work) (cs : List Choice) → Keeps ts a b → AllChoicesFit a cs → AllChoicesFit b cs
choices-still ts a b [] k h = tt
choices-still ts a b (c ∷ more) k h = (can-still ts a b c.is_blocking c.number c.bits k h.0, choices-still ts a b more k h.1)

-- what one variable gets back leaves the others
pub fit-restored : (a b : Work) (c : Change) (before : List Bit) → FitsChange a c → before ≡ c.before → b ≡ with_held c.is_blocking c.number before a → (cs : List Change) → AllFit a cs → AllFit b cs
fit-restored a b c before fit is e cs h =
    let x : Target = record { number = c.number; width = 0; place = record { file = 0; line = 0; col = 0 }; is_blocking = c.is_blocking } in
    let long : length before ≡ length (held a c.is_blocking c.number) = ap (λ (l : List Bit). length l) is ∙ fit.long in
    let k : Keeps (x ∷ []) a (with_held c.is_blocking c.number before a) = keeps-held x before a fit.known long (λ s. subst (AllBelow a.building.nets) (sym is) fit.below) in
    subst (λ (w : Work). AllFit w cs) (sym e) (fit-still (x ∷ []) a (with_held c.is_blocking c.number before a) cs k h)

-- Giving back.

abbrev is_this : Bool → Target → ℕ → Bool
is_this kind x n = nat_eq x.number n && bit_same kind x.is_blocking

given-held : (t : Work) (ds : List Target) (w : Work) (kind : Bool) (n : ℕ) → Known (length w.building.signals) ds → (length (given_back (changes_of t ds) w).building.signals ≡ length w.building.signals) × (held (given_back (changes_of t ds) w) kind n ≡ (if stands kind ds n then held t kind n else held w kind n))
given-held t [] w kind n k = (refl, refl)
given-held t (x ∷ more) w kind n k =
    let j : Bool = x.is_blocking in
    let bits : List Bit = held t j x.number in
    let v : Work = with_held j x.number bits w in
    let count : length v.building.signals ≡ length w.building.signals = signals-held j x.number bits w in
    let ih = given-held t more v kind n (rw count k.1) in
    (ih.0 ∙ count, ih.1 ∙ ap (λ (xs : List Bit). if stands kind more n then held t kind n else xs) (held-with kind j x.number n bits w k.0) ∙ pick (is_this kind x n) refl (stands kind more n)) where
      signals-held : (b : Bool) (m : ℕ) (xs : List Bit) (u : Work) → length (with_held b m xs u).building.signals ≡ length u.building.signals
      signals-held true m xs u = length-set u.building.signals m xs
      signals-held false m xs u = refl

      pick : (h : Bool) → is_this kind x n ≡ h → (s : Bool) → (if s then held t kind n else (if h then held t x.is_blocking x.number else held w kind n)) ≡ (if h || s then held t kind n else held w kind n)
      pick true e true = refl
      pick true e false =
          let same : x.number ≡ n = exact_unsigned_eq x.number n (and-left (nat_eq x.number n) (bit_same kind x.is_blocking) e) in
          let alike : kind ≡ x.is_blocking = bit_same-true kind x.is_blocking (and-right (nat_eq x.number n) (bit_same kind x.is_blocking) e) in
          rw (alike, ← same) refl
      pick false e true = refl
      pick false e false = refl

held-rest : (kind : Bool) (k : ℕ) (bits : List Bit) (w : Work) (ss : List (List Bit)) → record (with_held kind k bits w).building { signals = ss } ≡ record w.building { signals = ss }
held-rest true k bits w ss = refl
held-rest false k bits w ss = refl

given-rest : (cs : List Change) (w : Work) → ((given_back cs w).building ≡ record w.building { signals = (given_back cs w).building.signals })
given-rest [] w = refl
given-rest (c ∷ more) w =
    let v : Work = with_held c.is_blocking c.number c.before w in
    given-rest more v ∙ held-rest c.is_blocking c.number c.before w (given_back more v).building.signals

pub given-restores : (ps : List Target) (t y : Work) → Keeps ps t y → given_back (changes_of t (distinct ps)) y ≡ restored t y
given-restores ps t y k = λ j. record { building = building_is j; pending = λ n. held_is false n j } where
  known : Known (length y.building.signals) (distinct ps)
  known = rw k.adds.count (known-distinct (length t.building.signals) [] ps k.known)

  back : (kind : Bool) (n : ℕ) (b : Bool) → stands kind ps n ≡ b → (if b then held t kind n else held y kind n) ≡ held t kind n
  back kind n true e = refl
  back true n false e = k.seen_kept n e
  back false n false e = k.later_kept n e

  held_is : (kind : Bool) (n : ℕ) → held (given_back (changes_of t (distinct ps)) y) kind n ≡ held t kind n
  held_is kind n = (given-held t (distinct ps) y kind n known).1 ∙ rw (stands-distinct kind ps n) (back kind n (stands kind ps n) refl)

  signals_are : (given_back (changes_of t (distinct ps)) y).building.signals ≡ t.building.signals
  signals_are = ext_get_or [] _ _ ((given-held t (distinct ps) y true 0 known).0 ∙ k.adds.count) (λ i h. held_is true i)

  building_is : (given_back (changes_of t (distinct ps)) y).building ≡ record y.building { signals = t.building.signals }
  building_is = given-rest (changes_of t (distinct ps)) y ∙ ap (λ (ss : List (List Bit)). record y.building { signals = ss }) signals_are

-- Choices.

pub have-is : (t y : Work) (ds : List Target) → all_have y (changes_of t ds) ≡ choices y ds
have-is t y [] = refl
have-is t y (x ∷ more) = ap (λ (l : List Choice). choice_of y x ∷ l) (have-is t y more)

had-is : (t y : Work) (seen : List Target) → ((kind : Bool) (n : ℕ) → stands kind seen n ≡ false → held y kind n ≡ held t kind n) → (qs : List Target) → all_had (changes_of t (distinct_after seen qs)) ≡ choices y (distinct_after seen qs)
had-is t y seen same [] = refl
had-is t y seen same (x ∷ qs) = go (stands x.is_blocking seen x.number) refl (had-is t y seen same qs) (had-is t y (x ∷ seen) (λ kind n e. same kind n (or-right (is_this kind x n) (stands kind seen n) e)) qs) where
  go : (b : Bool) → stands x.is_blocking seen x.number ≡ b → all_had (changes_of t (distinct_after seen qs)) ≡ choices y (distinct_after seen qs) → all_had (changes_of t (distinct_after (x ∷ seen) qs)) ≡ choices y (distinct_after (x ∷ seen) qs) → all_had (changes_of t (if b then distinct_after seen qs else x ∷ distinct_after (x ∷ seen) qs)) ≡ choices y (if b then distinct_after seen qs else x ∷ distinct_after (x ∷ seen) qs)
  go true e f g = f
  go false e f g = ap (λ (bits : List Bit). record { number = x.number; is_blocking = x.is_blocking; bits = bits } ∷ all_had (changes_of t (distinct_after (x ∷ seen) qs))) (sym (same x.is_blocking x.number e)) ∙ ap (λ (l : List Choice). choice_of y x ∷ l) g

drop-front : (xs ys : List Change) → drop (length xs) (xs ++ ys) ≡ ys
drop-front [] ys = refl
drop-front (x ∷ xs) ys = drop-front xs ys

pub chosen-is : (ps qs : List Target) (t y : Work) → Keeps ps t y → chosen (all_have y (changes_of t (distinct ps))) (changes_of t (distinct ps)) (changes_of (restored t y) (distinct qs)) ≡ choices y (distinct (ps ++ qs))
chosen-is ps qs t y k =
    let seen : List Target = seen_after [] ps in
    let cs : List Change = changes_of t (distinct ps) in
    let r : Work = restored t y in
    let both : joined cs (changes_of r (distinct qs)) ≡ cs ++ changes_of t (distinct_after seen qs) = changes-both ps qs t r (λ kind n e. restored-held kind n) in
    let tail : drop (length cs) (joined cs (changes_of r (distinct qs))) ≡ changes_of t (distinct_after seen qs) = ap (λ (l : List Change). drop (length cs) l) both ∙ drop-front cs (changes_of t (distinct_after seen qs)) in
    ap (λ (l : List Change). all_have y cs ++ all_had l) tail
    ∙ ap (λ (l : List Choice). all_have y cs ++ l) (had-is t y seen (λ kind n e. keeps-still ps t y k kind n (or-left-of kind n e)) qs)
    ∙ ap (λ (l : List Choice). l ++ choices y (distinct_after seen qs)) (have-is t y (distinct ps))
    ∙ sym (ap (choices y) (distinct-append [] ps qs) ∙ map-append (choice_of y) (distinct ps) (distinct_after seen qs)) where
      restored-held : (kind : Bool) (n : ℕ) → held (restored t y) kind n ≡ held t kind n
      restored-held true n = refl
      restored-held false n = refl

      or-left-of : (kind : Bool) (n : ℕ) → stands kind (seen_after [] ps) n ≡ false → stands kind ps n ≡ false
      or-left-of kind n e = first (stands kind ps n) (sym (stands-after kind [] ps n) ∙ e) where
        first : (b : Bool) → (b || false) ≡ false → b ≡ false
        first true f = f
        first false f = refl

pub changes-same : (a t : Work) (xs : List Target) → ((kind : Bool) (n : ℕ) → held t kind n ≡ held a kind n) → changes_of t xs ≡ changes_of a xs
changes-same a t [] e = refl
changes-same a t (x ∷ xs) e = ap (λ (bits : List Bit). record { number = x.number; is_blocking = x.is_blocking; before = bits } ∷ changes_of t xs) (e x.is_blocking x.number) ∙ ap (λ (l : List Change). change_of a x ∷ l) (changes-same a t xs e)

-- a choice
pub built-choice : (at : Span) (c : Test) (p q : Steps) (a t y w n b : Work) (test : List Bit) (cs ds : List Change) → BuildsTest c a t test → Built p t y cs → w ≡ given_back cs y → Built q w n ds → ChoosesAll at test (chosen (all_have y cs) cs ds) n b → Built (Choose at c p q Done) a b (joined cs ds)
built-choice at c p q a t y w n b test cs ds f g back h e =
    let ps : List Target = targets p in
    let qs : List Target = targets q in
    let kp : Keeps ps t y = keeps p t y g.builds in
    let r : Work = restored t y in
    let w_is : w ≡ r = back ∙ ap (λ (l : List Change). given_back l y) g.changes_are ∙ given-restores ps t y kp in
    let other : Built q r n ds = subst (λ (u : Work). Built q u n ds) w_is h in
    let chosen_are : chosen (all_have y cs) cs ds ≡ choices y (distinct (ps ++ qs)) = rw (g.changes_are, other.changes_are) (chosen-is ps qs t y kp) in
    let kt : Keeps [] a t = keeps-test c a t test f in
    let last : ChoosesAll at test (choices y (distinct (ps ++ qs))) n b = subst (λ (l : List Choice). ChoosesAll at test l n b) chosen_are e in
    record {
      builds = (t, y, n, b, test, f, g.builds, other.builds, last, refl);
      changes_are = rw (g.changes_are, other.changes_are, append-nil qs) (changes-joined ps qs t r (λ kind m i. restored-held kind m) ∙ changes-same a t (distinct (ps ++ qs)) (λ kind m. keeps-still [] a t kt kind m refl));
    } where
      restored-held : (kind : Bool) (m : ℕ) → held (restored t y) kind m ≡ held t kind m
      restored-held true m = refl
      restored-held false m = refl
