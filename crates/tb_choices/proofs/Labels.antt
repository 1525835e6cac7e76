-- What the labels of each item have, from what all labels have.
use Rattle.tb_choices.proofs.Common.{◌≡◌, zero, suc, ℕ, ◌<◌, List, [], ◌∷◌, ◌++◌, map, refl, ap, subst, sym, ◌∙◌, arith, length, get_or, slice_index_or, All, flat_map, Expr, Shape, Names, AllWithin}
use Rattle.tb_choices.proofs.Common.{within_left, within_right, Choice, choice_labels, LabelsWhole}
use Rattle.vlog_meaning.specs.Senses.{IsWhole}

map_at : {A B : Type 0} (f : A → B) (xs : List A) (k : ℕ) (x : A) → x ≡ get_or xs k x → k < length xs → f x ≡ slice_index_or (map f xs) k (f x)
map_at f [] k x is h = absurd (omega arith)
map_at f (y ∷ ys) zero x is h = ap f is
map_at f (y ∷ ys) (suc k) x is h = map_at f ys k x is (omega arith)

map_long : {A B : Type 0} (f : A → B) (xs : List A) (k : ℕ) → k < length xs → k < length (map f xs)
map_long f [] k h = h
map_long f (y ∷ ys) zero h = omega arith
map_long f (y ∷ ys) (suc k) h = let r = map_long f ys k (omega arith) in omega arith

-- the labels of the item at a place
pub labels_whole_at : (names : Names) (is : List Choice) (k : ℕ) (i : Choice) (ls : List Expr) → i ≡ get_or is k i → k < length is → ls ≡ choice_labels i → LabelsWhole names (map choice_labels is) → All (IsWhole names) ls
labels_whole_at names is k i ls at h l all = subst (All (IsWhole names)) (sym (l ∙ map_at choice_labels is k i at h)) (all k (choice_labels i) (map_long choice_labels is k h))

pub labels_within_at : (names : Names) (size : Shape) (is : List Choice) (k : ℕ) (i : Choice) (ls : List Expr) → i ≡ get_or is k i → k < length is → ls ≡ choice_labels i → AllWithin names size (flat_map choice_labels is) → AllWithin names size ls
labels_within_at names size [] k i ls at h l a = absurd (omega arith)
labels_within_at names size (j ∷ js) zero i ls at h l a = subst (AllWithin names size) (sym (l ∙ ap choice_labels at)) (within_left names size (choice_labels j) (flat_map choice_labels js) a)
labels_within_at names size (j ∷ js) (suc k) i ls at h l a = labels_within_at names size js k i ls at (omega arith) l (within_right names size (choice_labels j) (flat_map choice_labels js) a)

-- the labels of all items, one after the other
pub flat_of_map : (is : List Choice) → flat_map choice_labels is ≡ flat_map (λ (ls : List Expr). ls) (map choice_labels is)
flat_of_map [] = refl
flat_of_map (i ∷ is) = ap (λ (l : List Expr). choice_labels i ++ l) (flat_of_map is)
