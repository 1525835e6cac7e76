-- Whether one of a list is so, one item more at a time.
use Rattle.tb_values.proofs.Common.{◌≡◌, zero, suc, ℕ, ◌<◌, Bool, true, false, ◌||◌, List, [], ◌∷◌, map, refl, ap, ◌∙◌, arith, length, get_or, take, any_of}

first : (r b : Bool) → r ≡ b → (r || false) ≡ (b || false)
first r b e = ap (λ (z : Bool). z || false) e

moved : (r a b o : Bool) → o ≡ (r || (a || b)) → o ≡ (a || (r || b))
moved true true b o e = e
moved true false b o e = e
moved false a b o e = e

-- whether one of the first items is so, with one item more
pub any_more : {A : Type 0} (f : A → Bool) (xs : List A) (k : ℕ) (x : A) (found r o : Bool) → x ≡ get_or xs k x → k < length xs → found ≡ any_of (map f (take k xs)) → r ≡ f x → o ≡ (r || found) → o ≡ any_of (map f (take (suc k) xs))
any_more f [] k x found r o is h e here either = absurd (omega arith)
any_more f (y ∷ ys) zero x found r o is h e here either = either ∙ ap (λ (b : Bool). r || b) e ∙ first r (f y) (here ∙ ap f is)
any_more f (y ∷ ys) (suc k) x found r o is h e here either = moved r (f y) (any_of (map f (take k ys))) o (either ∙ ap (λ (b : Bool). r || b) e) ∙ ap (λ (b : Bool). f y || b) (any_more f ys k x (any_of (map f (take k ys))) r (r || any_of (map f (take k ys))) is (omega arith) refl here refl)

-- where neither is so
pub left_false : (a b : Bool) → (a || b) ≡ false → a ≡ false
left_false true b e = e
left_false false b e = refl

pub right_false : (a b : Bool) → (a || b) ≡ false → b ≡ false
right_false true b e = absurd cc
right_false false b e = e
