-- Items without a fault, one more, and the first that has one.
use Rattle.tb_refusals.proofs.Common.{◌≡◌, ℕ, zero, suc, ◌<◌, Bool, true, false, nat_eq, nat_lt, List, [], ◌∷◌, ◌++◌, take, length, get_or, refl, sym, ap, ◌∙◌, subst, arith, BenchFault, IsFirst}
use Rattle.tb_refusals.proofs.Common.{BenchItem, Context, item_faults, AreFaultless, IsRefused, OneFirst}
use Rattle.std.proofs.lemmas.Bool.Decides.{nat_tests}
use Rattle.std.specs.Prelude.{Option, Some, None, slice_get}
use Rattle.tb_faults.proofs.Order.{first_once}
use Rattle.std.proofs.lemmas.Option.{same_Some}

pub take_more : (xs : List BenchItem) (k : ℕ) (x : BenchItem) → x ≡ get_or xs k x → k < length xs → take (suc k) xs ≡ take k xs ++ x ∷ []
take_more [] k x is h = absurd (omega arith)
take_more (y ∷ ys) zero x is h = ap (λ (z : BenchItem). z ∷ []) (sym is)
take_more (y ∷ ys) (suc k) x is h = ap (λ (zs : List BenchItem). y ∷ zs) (take_more ys k x is (omega arith))

at_place : (xs : List BenchItem) (k : ℕ) (x : BenchItem) → x ≡ get_or xs k x → k < length xs → slice_get xs k ≡ Some x
at_place [] k x is h = absurd (omega arith)
at_place (y ∷ ys) zero x is h = ap (λ (z : BenchItem). Some z) (sym is)
at_place (y ∷ ys) (suc k) x is h = at_place ys k x is (omega arith)

pub none_at_first : (c : Context) (items : List BenchItem) → AreFaultless c items 0
none_at_first c items k x h at = absurd (omega arith)

pub faultless_more : (c : Context) (items : List BenchItem) (n : ℕ) (x : BenchItem) (f : Option BenchFault) → x ≡ get_or items n x → n < length items → AreFaultless c items n → IsFirst (item_faults c (take n items) x) f → f ≡ None → AreFaultless c items (suc n)
faultless_more c items n x f is h before first none k y below at = go (nat_eq k n) refl
  where
    no_faults : item_faults c (take n items) x ≡ []
    no_faults = subst (IsFirst (item_faults c (take n items) x)) none first

    go : (b : Bool) → nat_eq k n ≡ b → item_faults c (take k items) y ≡ []
    go true e =
        let same : k ≡ n = grind (arith, nat_tests) in
        let here : y ≡ x = same_Some y x (sym at ∙ ap (λ (m : ℕ). slice_get items m) same ∙ at_place items n x is h) in
        ap (λ (m : ℕ). item_faults c (take m items) y) same ∙ ap (item_faults c (take n items)) here ∙ no_faults
    go false e = before k y (grind (arith, nat_tests)) at

-- There is one first fault, or none.

within : (xs : List BenchItem) (k : ℕ) (x : BenchItem) → slice_get xs k ≡ Some x → k < length xs
within [] k x e = absurd cc
within (y ∷ ys) zero x e = omega arith
within (y ∷ ys) (suc k) x e = let h : k < length ys = within ys k x e in omega arith

has_fault : (fs : List BenchFault) (fault : BenchFault) → fs ≡ [] → IsFirst fs (Some fault) → ⊥
has_fault [] fault e first = first.0
has_fault (f ∷ fs) fault e first = absurd cc

not_behind : (c : Context) (items : List BenchItem) (fault : BenchFault) (n : ℕ) (r : IsRefused c items fault) → AreFaultless c items n → r.place < n → ⊥
not_behind c items fault n r none h = has_fault (item_faults c (take r.place items) r.item) fault (none r.place r.item h r.there) r.first

same_place : (c : Context) (items : List BenchItem) (f g : BenchFault) (a : IsRefused c items f) (b : IsRefused c items g) → a.place ≡ b.place → Some f ≡ Some g
same_place c items f g a b e =
    let item : a.item ≡ b.item = same_Some a.item b.item (sym a.there ∙ ap (λ (k : ℕ). slice_get items k) e ∙ b.there) in
    let faults : item_faults c (take b.place items) b.item ≡ item_faults c (take a.place items) a.item = sym (ap (λ (k : ℕ). item_faults c (take k items) a.item) e ∙ ap (item_faults c (take b.place items)) item) in
    first_once (item_faults c (take a.place items) a.item) (Some f) (Some g) a.first (subst (λ (fs : List BenchFault). IsFirst fs (Some g)) faults b.first)

pub first_once_in : OneFirst
first_once_in c items None None i j = refl
first_once_in c items None (Some g) i j = absurd (not_behind c items g (length items) j i (within items j.place j.item j.there))
first_once_in c items (Some f) None i j = absurd (not_behind c items f (length items) i j (within items i.place i.item i.there))
first_once_in c items (Some f) (Some g) i j = go (nat_lt i.place j.place) (nat_lt j.place i.place) refl refl
  where
    go : (a b : Bool) → nat_lt i.place j.place ≡ a → nat_lt j.place i.place ≡ b → Some f ≡ Some g
    go true b e h = absurd (not_behind c items f j.place i j.before (grind (arith, nat_tests)))
    go false true e h = absurd (not_behind c items g i.place j i.before (grind (arith, nat_tests)))
    go false false e h = same_place c items f g i j (grind (arith, nat_tests))
