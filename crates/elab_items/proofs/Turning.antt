-- The turns of the first items of a design.
use Rattle.elab_items.proofs.Common.{◌≡◌, ℕ, zero, suc, ◌+◌, ◌-◌, ◌<◌, ◌≤◌, Bool, List, [], ◌∷◌, length, get_or, take, refl, sym, ap, ◌∙◌, subst, arith, if◌then◌else◌, lt-ltb, le-ltb, Process, Names}
use Rattle.elab_items.proofs.Common.{Building, IsLeft, process_turns, HasPlaces, Place, FlatItem, Desk, AreCopies, HasFlags, Serves, names_at, IsPast, item_turns, turns_in, within}
use Rattle.std.specs.Prelude.{Option, None, Some}

-- a process of a scope has the turns that it has in its names
pub run_counted : (places : List Place) (k : ℕ) (p : Process) (names : Names) (left : ℕ) (o : Option ℕ) → names_at places k ≡ names → IsLeft (process_turns names p) left o → IsLeft (process_turns (names_at places k) p) left o
run_counted places k p names left o is h = subst (λ (x : Names). IsLeft (process_turns x p) left o) (sym is) h

-- a desk serves as before, whose scopes alone have changed
pub serves_again : (inputs : List Bool) (places : List Place) (b : Building) (old new : Desk) → AreCopies places new.scopes.items → new.waiting ≡ old.waiting → new.written.items ≡ old.written.items → Serves inputs places b old → Serves inputs places b new
serves_again inputs places b old new copies waiting written h = record {
  holds = record { scopes = copies; waiting = subst (HasPlaces b) (sym waiting) h.holds.waiting };
  flags = subst (HasFlags b inputs) (sym written) h.flags;
}

module _ (places : List Place) where
  turns_next : (items : List FlatItem) (k : ℕ) (x : FlatItem) → x ≡ get_or items k x → k < length items → turns_in places (take (suc k) items) ≡ turns_in places (take k items) + item_turns places x
  turns_next [] k x is h = absurd (omega arith)
  turns_next (y ∷ ys) zero x is h =
      let same : item_turns places x ≡ item_turns places y = ap (item_turns places) is in
      let one : item_turns places y + 0 ≡ 0 + item_turns places x = omega (arith, same) in
      one
  turns_next (y ∷ ys) (suc k) x is h =
      let rest = turns_next ys k x is (omega arith) in
      let more : item_turns places y + turns_in places (take (suc k) ys) ≡ (item_turns places y + turns_in places (take k ys)) + item_turns places x = omega (arith, rest) in
      more

  turns_some : (items : List FlatItem) (n : ℕ) → turns_in places (take n items) ≤ turns_in places items
  turns_some [] zero = let none : 0 ≤ 0 = omega arith in none
  turns_some [] (suc n) = let none : 0 ≤ 0 = omega arith in none
  turns_some (y ∷ ys) zero = let some : 0 ≤ item_turns places y + turns_in places ys = omega arith in some
  turns_some (y ∷ ys) (suc n) =
      let rest = turns_some ys n in
      let more : item_turns places y + turns_in places (take n ys) ≤ item_turns places y + turns_in places ys = omega (arith, rest) in
      more

  all_taken : (items : List FlatItem) (k : ℕ) → length items ≤ k → take k items ≡ items
  all_taken [] zero h = refl
  all_taken [] (suc k) h = refl
  all_taken (y ∷ ys) zero h = absurd (omega arith)
  all_taken (y ∷ ys) (suc k) h = ap (λ (rest : List FlatItem). y ∷ rest) (all_taken ys k (omega arith))

  -- one item more is within
  within_one : (left : ℕ) (item : FlatItem) (more : List FlatItem) → item_turns places item ≤ left → within places left (item ∷ more) ≡ item ∷ within places (left - item_turns places item) more
  within_one left item more few = ap (λ (b : Bool). if b then [] else item ∷ within places (left - item_turns places item) more) (le-ltb left (item_turns places item) few)

  within_none : (left : ℕ) (item : FlatItem) (more : List FlatItem) → left < item_turns places item → within places left (item ∷ more) ≡ []
  within_none left item more many = ap (λ (b : Bool). if b then [] else item ∷ within places (left - item_turns places item) more) (lt-ltb left (item_turns places item) many)

  -- Items that take at most so many turns are all within.
  pub all_within : (items : List FlatItem) (left : ℕ) → turns_in places items ≤ left → within places left items ≡ items
  all_within [] left h = refl
  all_within (item ∷ more) left h =
      let few : item_turns places item + turns_in places more ≤ left = h in
      within_one left item more (omega (arith, few)) ∙ ap (λ (rest : List FlatItem). item ∷ rest) (all_within more (left - item_turns places item) (omega (arith, few)))

  within_taken : (items : List FlatItem) (k left : ℕ) → k < length items → turns_in places (take k items) ≤ left → left < turns_in places (take (suc k) items) → within places left items ≡ take k items
  within_taken [] k left h few many = absurd (omega arith)
  within_taken (item ∷ more) zero left h few many =
      let here : left < item_turns places item + 0 = many in
      within_none left item more (omega (arith, here))
  within_taken (item ∷ more) (suc k) left h few many =
      let before : item_turns places item + turns_in places (take k more) ≤ left = few in
      let after : left < item_turns places item + turns_in places (take (suc k) more) = many in
      within_one left item more (omega (arith, before)) ∙ ap (λ (rest : List FlatItem). item ∷ rest) (within_taken more k (left - item_turns places item) (omega arith) (omega (arith, before)) (omega (arith, before, after)))

  -- The code's loop: these are left after so many items.

  abbrev pub LeftAfter : List FlatItem → (k most left : ℕ) → Type 0
  LeftAfter items k most left = left + turns_in places (take k items) ≡ most

  pub after_none : (items : List FlatItem) (most : ℕ) → LeftAfter items zero most most
  after_none [] most = let none : most + 0 ≡ most = omega arith in none
  after_none (y ∷ ys) most = let none : most + 0 ≡ most = omega arith in none

  pub after_one : (items : List FlatItem) (k : ℕ) (x : FlatItem) (most left rest : ℕ) → x ≡ get_or items k x → k < length items → LeftAfter items k most left → IsLeft (item_turns places x) left (Some rest) → LeftAfter items (k + 1) most rest
  after_one items k x most left rest is h after one =
      let next = turns_next items k x is h in
      let here : rest + turns_in places (take (suc k) items) ≡ most = omega (arith, next, after, one) in
      let up : suc k ≡ k + 1 = omega arith in
      subst (λ (n : ℕ). LeftAfter items n most rest) up here

  pub past_here : (items : List FlatItem) (k : ℕ) (x : FlatItem) (most left : ℕ) → x ≡ get_or items k x → k < length items → LeftAfter items k most left → IsLeft (item_turns places x) left None → IsPast places most items (Some k)
  past_here items k x most left is h after many =
      let next = turns_next items k x is h in
      let some = turns_some items (suc k) in
      (omega (arith, h), within_taken items k most h (omega (arith, after)) (omega (arith, next, after, many)), omega (arith, next, some, after, many))

  pub past_nowhere : (items : List FlatItem) (k most left : ℕ) → length items ≤ k → LeftAfter items k most left → IsPast places most items None
  past_nowhere items k most left h after = let all : turns_in places (take k items) ≡ turns_in places items = ap (turns_in places) (all_taken items k h) in omega (arith, all, after)
