-- Whether one of a list is so, one item more at a time.
use Rattle.std.proofs.Common.{◌≡◌, zero, suc, ℕ, ◌<◌, Bool, true, false, ◌||◌, List, [], ◌∷◌, map, refl, ap, ◌≤◌, ◌∙◌, arith, length, get_or, take}
use Rattle.vlog_syntax.specs.declared.stmt.EventExpression.{EventExpression}
use Rattle.process_events.specs.Naming.{any_of}
use Rattle.process_events.specs.Events.{is_edge, any_edge}

first : (r b : Bool) → r ≡ b → (r || false) ≡ (b || false)
first r b e = ap (λ (z : Bool). z || false) e

moved : (r a b o : Bool) → o ≡ (r || (a || b)) → o ≡ (a || (r || b))
moved true true b o e = e
moved true false b o e = e
moved false a b o e = e

-- whether one of the first items is so, with one item more
pub any_more : {A : Type 0} (f : A → Bool) (xs : List A) (k : ℕ) (x : A) (found r o : Bool) → x ≡ get_or xs k x → k < length xs → found ≡ any_of (map f (take k xs)) → r ≡ f x → o ≡ (r || found) → o ≡ any_of (map f (take (suc k) xs))
any_more f [] k x found r o is h e here either = absurd (omega arith)
any_more f (y ∷ ys) zero x found r o is h e here either = either ∙ ap (λ (b : Bool). r || b) e ∙ first r (f y) (here ∙ ap f is)
any_more f (y ∷ ys) (suc k) x found r o is h e here either = moved r (f y) (any_of (map f (take k ys))) o (either ∙ ap (λ (b : Bool). r || b) e) ∙ ap (λ (b : Bool). f y || b) (any_more f ys k x (any_of (map f (take k ys))) r (r || any_of (map f (take k ys))) is (omega arith) refl here refl)

-- the same of edges
pub edge_more : (xs : List EventExpression) (k : ℕ) (x : EventExpression) (found r o : Bool) → x ≡ get_or xs k x → k < length xs → found ≡ any_edge (take k xs) → r ≡ is_edge x.edge → o ≡ (r || found) → o ≡ any_edge (take (suc k) xs)
edge_more [] k x found r o is h e here either = absurd (omega arith)
edge_more (y ∷ ys) zero x found r o is h e here either = either ∙ ap (λ (b : Bool). r || b) e ∙ first r (is_edge y.edge) (here ∙ ap (λ (z : EventExpression). is_edge z.edge) is)
edge_more (y ∷ ys) (suc k) x found r o is h e here either = moved r (is_edge y.edge) (any_edge (take k ys)) o (either ∙ ap (λ (b : Bool). r || b) e) ∙ ap (λ (b : Bool). is_edge y.edge || b) (edge_more ys k x (any_edge (take k ys)) r (r || any_edge (take k ys)) is (omega arith) refl here refl)

-- a list of two
pub pair_list : (xs : List EventExpression) (x y : EventExpression) → x ≡ get_or xs 0 x → y ≡ get_or xs 1 y → 2 ≤ length xs → length xs < 3 → xs ≡ x ∷ y ∷ []
pair_list [] x y e f h k = absurd (omega arith)
pair_list (a ∷ []) x y e f h k = absurd (omega arith)
pair_list (a ∷ b ∷ []) x y e f h k = rw (e, f) refl
pair_list (a ∷ b ∷ z ∷ more) x y e f h k = absurd (omega arith)
