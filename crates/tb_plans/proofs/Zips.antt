-- Lists whose elements belong together: one pair more, and the pair at a place.
use Rattle.tb_plans.proofs.Common.{◌≡◌, zero, suc, ℕ, ◌+◌, ◌<◌, ◌≤◌, List, [], ◌∷◌, ◌++◌, length, get_or, take, subst, sym, refl, arith, Some, slice_get, All, AllZip, take_all, same_Some, none-some}
use Rattle.std.proofs.lemmas.List.Elements.{All-nil, All-cons}

pub zip_next : {A B : Type 0} (R : A → B → Type 0) (xs : List A) (ys : List B) (k : ℕ) (x : A) (y : B) → x ≡ get_or xs k x → k < length xs → AllZip R (take k xs) ys → R x y → AllZip R (take (suc k) xs) (ys ++ y ∷ [])
zip_next R [] ys k x y is h all one = absurd (omega arith)
zip_next {A} R (z ∷ zs) [] zero x y is h all one = (subst (λ (a : A). R a y) is one, tt)
zip_next R (z ∷ zs) (w ∷ ws) zero x y is h all one = absurd all
zip_next R (z ∷ zs) [] (suc k) x y is h all one = absurd all
zip_next R (z ∷ zs) (w ∷ ws) (suc k) x y is h all one = (all.0, zip_next R zs ws k x y is (omega arith) all.1 one)

pub zip_more : {A B : Type 0} (R : A → B → Type 0) (xs : List A) (ys zs : List B) (k : ℕ) (x : A) (y : B) → x ≡ get_or xs k x → k < length xs → AllZip R (take k xs) ys → R x y → zs ≡ ys ++ y ∷ [] → AllZip R (take (k + 1) xs) zs
zip_more R xs ys zs k x y is h all one pushed =
    let e : k + 1 ≡ suc k = omega arith in
    rw (e, pushed) (zip_next R xs ys k x y is h all one)

pub zip_long : {A B : Type 0} (R : A → B → Type 0) (xs : List A) (ys : List B) → AllZip R xs ys → length ys ≡ length xs
zip_long R [] [] all = refl
zip_long R [] (y ∷ ys) all = absurd all
zip_long R (x ∷ xs) [] all = absurd all
zip_long R (x ∷ xs) (y ∷ ys) all = let e = zip_long R xs ys all.1 in omega (arith, e)

pub zip_at : {A B : Type 0} (R : A → B → Type 0) (xs : List A) (ys : List B) (k : ℕ) (x : A) (y : B) → AllZip R xs ys → slice_get xs k ≡ Some x → slice_get ys k ≡ Some y → R x y
zip_at R [] ys k x y all here there = absurd (none-some x here)
zip_at R (a ∷ more) [] k x y all here there = absurd (none-some y there)
zip_at {A} {B} R (a ∷ more) (b ∷ bs) zero x y all here there = subst (R x) (same_Some b y there) (subst (λ (z : A). R z b) (same_Some a x here) all.0)
zip_at R (a ∷ more) (b ∷ bs) (suc k) x y all here there = zip_at R more bs k x y all.1 here there

pub zip_end : {A B : Type 0} (R : A → B → Type 0) (xs : List A) (ys : List B) (k : ℕ) → length xs ≤ k → AllZip R (take k xs) ys → AllZip R xs ys
zip_end {A} R xs ys k h all = subst (λ (l : List A). AllZip R l ys) (take_all k xs h) all

-- the element at a place
pub all_at : {A : Type 0} (P : A → Type 0) (xs : List A) (k : ℕ) (x : A) → x ≡ get_or xs k x → k < length xs → All P xs → P x
all_at P xs k x is h all = subst P (sym is) (all k x h)

-- what each pair gives holds of all elements on the right
pub zip_all : {A B : Type 0} (R : A → B → Type 0) (P : B → Type 0) (xs : List A) (ys : List B) → ((x : A) (y : B) → R x y → P y) → AllZip R xs ys → All P ys
zip_all R P [] [] gives all = All-nil P
zip_all R P [] (y ∷ ys) gives all = absurd all
zip_all R P (x ∷ xs) [] gives all = absurd all
zip_all R P (x ∷ xs) (y ∷ ys) gives all = All-cons P y ys (gives x y all.0) (zip_all R P xs ys gives all.1)
