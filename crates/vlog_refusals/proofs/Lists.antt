-- Lists of what the items of a list give, one item more at a time.
use Rattle.vlog_refusals.proofs.Common.{◌≡◌, zero, suc, ℕ, ◌<◌, List, [], ◌∷◌, ◌++◌, map, sym, ap, ◌∙◌, arith, length, get_or, take, append_assoc, flat_map, append-nil}

pub flat_take : {A B : Type 0} (g : A → List B) (xs : List A) (k : ℕ) (x : A) → x ≡ get_or xs k x → k < length xs → flat_map g (take (suc k) xs) ≡ flat_map g (take k xs) ++ g x
flat_take g [] k x is h = absurd (omega arith)
flat_take g (y ∷ ys) zero x is h = append-nil (g y) ∙ ap g (sym is)
flat_take {A} {B} g (y ∷ ys) (suc k) x is h = ap (λ (l : List B). g y ++ l) (flat_take g ys k x is (omega arith)) ∙ sym (append_assoc (g y) (flat_map g (take k ys)) (g x))

pub map_take : {A B : Type 0} (g : A → B) (xs : List A) (k : ℕ) (x : A) → x ≡ get_or xs k x → k < length xs → map g (take (suc k) xs) ≡ map g (take k xs) ++ g x ∷ []
map_take g [] k x is h = absurd (omega arith)
map_take {A} {B} g (y ∷ ys) zero x is h = ap (λ (z : A). g z ∷ []) (sym is)
map_take {A} {B} g (y ∷ ys) (suc k) x is h = ap (λ (l : List B). g y ∷ l) (map_take g ys k x is (omega arith))
