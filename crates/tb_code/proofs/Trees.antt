-- Lists that become longer keep what stands in them.
use Rattle.tb_code.proofs.Common.{◌≡◌, ℕ, zero, suc, ◌<◌, ◌⊎◌, inl, inr, List, [], ◌∷◌, ◌++◌, map, length, Some, None, slice_get, All, refl, arith, All-nil, All-cons, All-head, All-tail, All-get_or}
use Rattle.tb_code.proofs.Common.{slice_get_within, get_or_from_slice_get, Stmt, tree_of}

pub tree-front : (trees more : List Stmt) (k : ℕ) → k < length trees → tree_of (trees ++ more) k ≡ tree_of trees k
tree-front [] more k h = absurd (omega arith)
tree-front (x ∷ xs) more zero h = refl
tree-front (x ∷ xs) more (suc k) h = tree-front xs more k (omega arith)

pub tree-last : (trees : List Stmt) (x : Stmt) → tree_of (trees ++ x ∷ []) (length trees) ≡ x
tree-last [] x = refl
tree-last (y ∷ ys) x = tree-last ys x

pub trees-front : (trees more : List Stmt) (ks : List ℕ) → All (λ k. k < length trees) ks → map (tree_of (trees ++ more)) ks ≡ map (tree_of trees) ks
trees-front trees more [] below = refl
trees-front trees more (k ∷ ks) below = rw (tree-front trees more k (All-head (λ j. j < length trees) k ks below), trees-front trees more ks (All-tail (λ j. j < length trees) k ks below)) refl

-- what stands in a list with one more
pub get-push : {A : Type 0} (xs : List A) (x y : A) (k : ℕ) → slice_get (xs ++ x ∷ []) k ≡ Some y → (slice_get xs k ≡ Some y) ⊎ ((k ≡ length xs) × (x ≡ y))
get-push [] x y zero is = inr (refl, cc)
get-push [] x y (suc k) is = absurd (let wrong : None ≡ Some y = is in cc)
get-push (z ∷ zs) x y zero is = inl is
get-push (z ∷ zs) x y (suc k) is = elim (get-push zs x y k is) [ inl here ↦ inl here | inr last ↦ inr (let same : k ≡ length zs = last.0 in omega arith, last.1) ]

pub all-get : {A : Type 0} (P : A → Type 0) (xs : List A) (k : ℕ) (x : A) → All P xs → slice_get xs k ≡ Some x → P x
all-get P xs k x all is = rw (get_or_from_slice_get xs k x x is) at (All-get_or P xs k x (slice_get_within xs k x is) all)

-- all in a list that is one behind the other

pub all-front : {A : Type 0} (P : A → Type 0) (xs ys : List A) → All P (xs ++ ys) → All P xs
all-front P [] ys all = All-nil P
all-front P (x ∷ xs) ys all = All-cons P x xs (All-head P x (xs ++ ys) all) (all-front P xs ys (All-tail P x (xs ++ ys) all))

pub all-behind : {A : Type 0} (P : A → Type 0) (xs ys : List A) → All P (xs ++ ys) → All P ys
all-behind P [] ys all = all
all-behind P (x ∷ xs) ys all = all-behind P xs ys (All-tail P x (xs ++ ys) all)
