-- What the calls for a choice ask of changes and choices holds after its parts.
use Rattle.proc_muxes.proofs.Common.{◌≡◌, ℕ, ◌≤◌, Bool, true, false, List, [], ◌∷◌, ◌++◌, length, refl, sym, ◌∙◌, ap, subst, if◌then◌else◌, length-map, Bit, Steps, Target, targets, AllBelow}
use Rattle.proc_muxes.proofs.Common.{below_later, Change, Choice, Work, held, choices, restored, stands, distinct_after, distinct, Known, Keeps, StandsBelow, changes_of, joined, all_have, AllFit}
use Rattle.proc_muxes.proofs.Common.{AllChoicesFit, AreWide, given_back, chosen, Built, ChangesFit, ChoicesFit}
use Rattle.proc_muxes.proofs.Frames.{known-append, known-distinct, keeps-again, keeps-restored, keeps-widths, stands-held, nets-added}
use Rattle.proc_muxes.proofs.Joining.{changes-joined}
use Rattle.proc_muxes.proofs.Keeping.{keeps}
use Rattle.proc_muxes.proofs.Merging.{fit-still, given-restores, chosen-is}

wide-skip : (a : Work) (b : Bool) (x : Target) (xs ys : List Target) → 1 ≤ length (held a x.is_blocking x.number) → length (held a x.is_blocking x.number) ≤ 128 → AreWide a xs → AreWide a ys → AreWide a (if b then xs else x ∷ ys)
wide-skip a true x xs ys some narrow k l = k
wide-skip a false x xs ys some narrow k l = (some, narrow, l)

wide-distinct : (a : Work) (seen xs : List Target) → AreWide a xs → AreWide a (distinct_after seen xs)
wide-distinct a seen [] k = tt
wide-distinct a seen (x ∷ more) k = wide-skip a (stands x.is_blocking seen x.number) x (distinct_after seen more) (distinct_after (x ∷ seen) more) k.0 k.1 (wide-distinct a seen more k.2) (wide-distinct a (x ∷ seen) more k.2)

fit-first : (t : Work) (xs : List Target) → Known (length t.building.signals) xs → StandsBelow t → AreWide t xs → AllFit t (changes_of t xs)
fit-first t [] k s w = tt
fit-first t (x ∷ more) k s w = (record { known = k.0; long = refl; some = w.0; narrow = w.1; below = stands-held t x.is_blocking x.number s }, fit-first t more k.1 s w.2)

pub changes-fit : ChangesFit
changes-fit p t y cs f s w =
    let k : Keeps (targets p) t y = keeps p t y f.builds in
    let ds : List Target = distinct (targets p) in
    subst (AllFit y) (sym f.changes_are) (fit-still (targets p) t y (changes_of t ds) k (fit-first t ds (known-distinct (length t.building.signals) [] (targets p) k.known) s (wide-distinct t [] (targets p) w)))

choices-first : (t y n : Work) (xs : List Target) → Known (length n.building.signals) xs → ((kind : Bool) (k : ℕ) → length (held y kind k) ≡ length (held t kind k)) → ((kind : Bool) (k : ℕ) → length (held n kind k) ≡ length (held t kind k)) → StandsBelow y → y.building.nets ≤ n.building.nets → AreWide t xs → AllChoicesFit n (choices y xs)
choices-first t y n [] k wy wn s le w = tt
choices-first t y n (x ∷ more) k wy wn s le w = (
  record {
    known = k.0;
    long = wy x.is_blocking x.number ∙ sym (wn x.is_blocking x.number);
    some = subst (λ (m : ℕ). 1 ≤ m) (sym (wy x.is_blocking x.number)) w.0;
    narrow = subst (λ (m : ℕ). m ≤ 128) (sym (wy x.is_blocking x.number)) w.1;
    below = below_later y.building.nets n.building.nets (held y x.is_blocking x.number) le (stands-held y x.is_blocking x.number s);
  },
  choices-first t y n more k.1 wy wn s le w.2,
)

-- What the second part of a choice leaves: steps, or the arms of a case.
pub record Leaves (qs : List Target) (w n : Work) (ds : List Change) : Type 0 where
  pub keeps : Keeps qs w n
  pub changes_are : ds ≡ changes_of w (distinct qs)

pub leaves-steps : (q : Steps) (w n : Work) (ds : List Change) → Built q w n ds → Leaves (targets q) w n ds
leaves-steps q w n ds f = record { keeps = keeps q w n f.builds; changes_are = f.changes_are }

-- what was given back is the builder with what it had
pub back-is : (p : Steps) (t y w : Work) (cs : List Change) → Built p t y cs → w ≡ given_back cs y → w ≡ restored t y
back-is p t y w cs f e = e ∙ ap (λ (l : List Change). given_back l y) f.changes_are ∙ given-restores (targets p) t y (keeps p t y f.builds)

module _ (p : Steps) (qs : List Target) (t y w n : Work) (cs ds : List Change) (f : Built p t y cs) (back : w ≡ given_back cs y) (g : Leaves qs w n ds) where
  first-keeps : Keeps (targets p) t y
  first-keeps = keeps p t y f.builds

  pub leaves-restored : Leaves qs (restored t y) n ds
  leaves-restored = subst (λ (u : Work). Leaves qs u n ds) (back-is p t y w cs f back) g

  pub both-keep : Keeps qs t n
  both-keep = keeps-again [] qs t (restored t y) n (keeps-restored (targets p) t y first-keeps) leaves-restored.keeps

  pub chosen-are : chosen (all_have y cs) cs ds ≡ choices y (distinct (targets p ++ qs))
  chosen-are = rw (f.changes_are, leaves-restored.changes_are) (chosen-is (targets p) qs t y first-keeps)

  pub joined-are : joined cs ds ≡ changes_of t (distinct (targets p ++ qs))
  joined-are = rw (f.changes_are, leaves-restored.changes_are) (changes-joined (targets p) qs t (restored t y) (λ kind m i. restored-held kind m)) where
    restored-held : (kind : Bool) (m : ℕ) → held (restored t y) kind m ≡ held t kind m
    restored-held true m = refl
    restored-held false m = refl

  pub parts-fit : StandsBelow t → AreWide t (targets p ++ qs) → AllChoicesFit n (chosen (all_have y cs) cs ds)
  parts-fit s wide =
      let all : List Target = distinct (targets p ++ qs) in
      let known : Known (length n.building.signals) all = rw both-keep.adds.count (known-distinct (length t.building.signals) [] (targets p ++ qs) (known-append (length t.building.signals) (targets p) qs first-keeps.known leaves-restored.keeps.known)) in
      let fit : AllChoicesFit n (choices y all) = choices-first t y n all known (keeps-widths (targets p) t y first-keeps) (keeps-widths qs t n both-keep) (first-keeps.below s) (nets-added (restored t y).building n.building leaves-restored.keeps.adds) (wide-distinct t [] (targets p ++ qs) wide) in
      subst (AllChoicesFit n) (sym chosen-are) fit

  -- a choice has as many muxes as it has targets
  pub parts-counted : length (chosen (all_have y cs) cs ds) ≡ length (distinct (targets p ++ qs))
  parts-counted = ap (λ (l : List Choice). length l) chosen-are ∙ length-map (distinct (targets p ++ qs)) _

  pub later-below : (bits : List Bit) → AllBelow t.building.nets bits → AllBelow n.building.nets bits
  later-below bits h = below_later t.building.nets n.building.nets bits (nets-added t.building n.building both-keep.adds) h

pub choices-fit : ChoicesFit
choices-fit p q t y w n cs ds f back g = parts-fit p (targets q) t y w n cs ds f back (leaves-steps q w n ds g)
