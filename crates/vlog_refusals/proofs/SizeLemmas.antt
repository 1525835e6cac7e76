-- Sizes of expressions that are brought together, and what each of several expressions has.
use Rattle.vlog_refusals.proofs.Common.{◌≡◌, zero, suc, ℕ, ◌<◌, ◌≤◌, max, Bool, true, false, ◌&&◌, List, [], ◌∷◌, ◌++◌, refl, sym, ap, ◌∙◌, subst, arith, length, get_or, take, append_assoc, All}
use Rattle.vlog_refusals.proofs.Common.{flat_map, Expr, Fault, Shape, IsSized, joint, Names, sense, senses, all_faults, IsWhole, AreWhole, IsContext, left_nil, right_nil, labels_in, common_size}
use Rattle.vlog_refusals.proofs.Common.{widened, AllWithin, LabelsWithin, wrong}
use Rattle.vlog_syntax.specs.declared.stmt.CaseItem.{CaseItem}
use Rattle.vlog_effects.specs.Expressions.{width_of, is_signed_of}
use Rattle.vlog_effects.specs.Steps.{greatest, all_signed}
use Rattle.vlog_refusals.proofs.Lists.{flat_take}
use Rattle.vlog_refusals.proofs.SideLemmas.{whole_of}

-- Each of several is whole.

-- where nothing is wrong in any of them
pub are_whole : (unsupported : Names → Expr → List Fault) (names : Names) (xs : List Expr) → flat_map (wrong unsupported names) xs ≡ [] → AreWhole names xs
are_whole unsupported names [] e = refl
are_whole unsupported names (x ∷ xs) e =
    let here : (sense names x).faults ≡ [] = whole_of unsupported names x (left_nil (wrong unsupported names x) (flat_map (wrong unsupported names) xs) e) in
    ap (λ (l : List Fault). l ++ all_faults (senses names xs)) here ∙ are_whole unsupported names xs (right_nil (wrong unsupported names x) (flat_map (wrong unsupported names) xs) e)

faults_append : (names : Names) (xs ys : List Expr) → all_faults (senses names (xs ++ ys)) ≡ all_faults (senses names xs) ++ all_faults (senses names ys)
faults_append names [] ys = refl
faults_append names (x ∷ xs) ys = ap (λ (l : List Fault). (sense names x).faults ++ l) (faults_append names xs ys) ∙ sym (append_assoc (sense names x).faults (all_faults (senses names xs)) (all_faults (senses names ys)))

-- the labels of an item, where all labels are
pub labels_whole : (names : Names) (is : List CaseItem) (k : ℕ) (i : CaseItem) → i ≡ get_or is k i → k < length is → AreWhole names (flat_map labels_in is) → AreWhole names (labels_in i)
labels_whole names [] k i is h e = absurd (omega arith)
labels_whole names (j ∷ js) zero i is h e = subst (λ (z : CaseItem). AreWhole names (labels_in z)) (sym is) (left_nil _ _ (sym (faults_append names (labels_in j) (flat_map labels_in js)) ∙ e))
labels_whole names (j ∷ js) (suc k) i is h e = labels_whole names js k i is (omega arith) (right_nil (all_faults (senses names (labels_in j))) _ (sym (faults_append names (labels_in j) (flat_map labels_in js)) ∙ e))

-- several, each of which is
pub all_whole : (names : Names) (xs : List Expr) → All (IsWhole names) xs → AreWhole names xs
all_whole names [] all = refl
all_whole names (x ∷ xs) all = ap (λ (l : List Fault). l ++ all_faults (senses names xs)) (all 0 x (omega arith)) ∙ all_whole names xs (λ k y h. all (suc k) y (omega arith))

-- Each of several can be evaluated at a size.

pub within_at : (names : Names) (size : Shape) (xs : List Expr) (k : ℕ) (x : Expr) → x ≡ get_or xs k x → k < length xs → AllWithin names size xs → IsContext (sense names x).shape size
within_at names size [] k x is h a = absurd (omega arith)
within_at names size (y ∷ ys) zero x is h a = subst (λ (z : Expr). IsContext (sense names z).shape size) (sym is) a.0
within_at names size (y ∷ ys) (suc k) x is h a = within_at names size ys k x is (omega arith) a.1

pub labels_within_at : (names : Names) (size : Shape) (is : List CaseItem) (k : ℕ) (i : CaseItem) → i ≡ get_or is k i → k < length is → LabelsWithin names size is → AllWithin names size (labels_in i)
labels_within_at names size [] k i is h a = absurd (omega arith)
labels_within_at names size (j ∷ js) zero i is h a = subst (λ (z : CaseItem). AllWithin names size (labels_in z)) (sym is) a.0
labels_within_at names size (j ∷ js) (suc k) i is h a = labels_within_at names size js k i is (omega arith) a.1

pub within_left : (names : Names) (size : Shape) (xs ys : List Expr) → AllWithin names size (xs ++ ys) → AllWithin names size xs
within_left names size [] ys a = tt
within_left names size (x ∷ xs) ys a = (a.0, within_left names size xs ys a.1)

pub within_right : (names : Names) (size : Shape) (xs ys : List Expr) → AllWithin names size (xs ++ ys) → AllWithin names size ys
within_right names size [] ys a = a
within_right names size (x ∷ xs) ys a = within_right names size xs ys a.1

pub labels_within : (names : Names) (size : Shape) (is : List CaseItem) → AllWithin names size (flat_map labels_in is) → LabelsWithin names size is
labels_within names size [] a = tt
labels_within names size (i ∷ is) a = (within_left names size (labels_in i) (flat_map labels_in is) a, labels_within names size is (within_right names size (labels_in i) (flat_map labels_in is) a))

-- Sizes.

and_left : (a b : Bool) → a && b ≡ true → a ≡ true
and_left true b e = refl
and_left false b e = cc

and_right : (a b : Bool) → a && b ≡ true → b ≡ true
and_right true b e = e
and_right false b e = cc

within_all : (names : Names) (size : Shape) (xs : List Expr) → greatest names xs ≤ size.width → size.width ≤ 128 → (size.is_signed ≡ true → all_signed names xs ≡ true) → AllWithin names size xs
within_all names size [] wide narrow sign = tt
within_all names size (x ∷ xs) wide narrow sign =
    let w : max (width_of names x) (greatest names xs) ≤ size.width = wide in
    (record { wide = omega arith; narrow = narrow; sign = λ e. and_left (is_signed_of names x) (all_signed names xs) (sign e) }, within_all names size xs (omega arith) narrow (λ e. and_right (is_signed_of names x) (all_signed names xs) (sign e)))

pub common_within : (names : Names) (size : Shape) (xs : List Expr) → size ≡ common_size names xs → IsSized size → AllWithin names size xs
common_within names size xs is sized =
    let w = ap (λ (s : Shape). s.width) is in
    within_all names size xs (omega arith) sized.narrow (λ e. sym (ap (λ (s : Shape). s.is_signed) is) ∙ e)

greatest_append : (names : Names) (xs ys : List Expr) → greatest names (xs ++ ys) ≡ max (greatest names xs) (greatest names ys)
greatest_append names [] ys = omega arith
greatest_append names (x ∷ xs) ys = let e = greatest_append names xs ys in omega arith

and_again : (a b c : Bool) → a && (b && c) ≡ (a && b) && c
and_again true b c = refl
and_again false b c = refl

signed_append : (names : Names) (xs ys : List Expr) → all_signed names (xs ++ ys) ≡ all_signed names xs && all_signed names ys
signed_append names [] ys = refl
signed_append names (x ∷ xs) ys = ap (λ (b : Bool). is_signed_of names x && b) (signed_append names xs ys) ∙ and_again (is_signed_of names x) (all_signed names xs) (all_signed names ys)

same_shape : (s t : Shape) → s.width ≡ t.width → s.is_signed ≡ t.is_signed → s ≡ t
same_shape s t w b =
    let by_width : ℕ → Shape = λ n. record { width = n; is_signed = s.is_signed } in
    let by_sign : Bool → Shape = λ x. record { width = t.width; is_signed = x } in
    ap by_width w ∙ ap by_sign b

and_true : (b : Bool) → b && true ≡ b
and_true true = refl
and_true false = refl

pub widened_again : (names : Names) (size : Shape) (xs ys : List Expr) → widened names (widened names size xs) ys ≡ widened names size (xs ++ ys)
widened_again names size xs ys = same_shape (widened names (widened names size xs) ys) (widened names size (xs ++ ys)) (let e = greatest_append names xs ys in omega arith) (sym (ap (λ (b : Bool). size.is_signed && b) (signed_append names xs ys) ∙ and_again size.is_signed (all_signed names xs) (all_signed names ys)))

take_one : {A : Type 0} (xs : List A) (k : ℕ) (x : A) → x ≡ get_or xs k x → k < length xs → take (suc k) xs ≡ take k xs ++ x ∷ []
take_one [] k x is h = absurd (omega arith)
take_one {A} (y ∷ ys) zero x is h = ap (λ (z : A). z ∷ []) (sym is)
take_one {A} (y ∷ ys) (suc k) x is h = ap (λ (l : List A). y ∷ l) (take_one ys k x is (omega arith))

widened_one : (names : Names) (size : Shape) (x : Expr) → joint size (sense names x).shape ≡ widened names size (x ∷ [])
widened_one names size x = same_shape (joint size (sense names x).shape) (widened names size (x ∷ [])) (omega arith) (ap (λ (b : Bool). size.is_signed && b) (sym (and_true (is_signed_of names x))))

-- one expression more
pub widened_more : (names : Names) (size common own r : Shape) (xs : List Expr) (k : ℕ) (x : Expr) → x ≡ get_or xs k x → k < length xs → common ≡ widened names size (take k xs) → own ≡ (sense names x).shape → r ≡ joint common own → r ≡ widened names size (take (suc k) xs)
widened_more names size common own r xs k x is h c o e =
    e ∙ ap (λ (s : Shape). joint s own) c ∙ ap (joint (widened names size (take k xs))) o ∙ widened_one names (widened names size (take k xs)) x ∙ widened_again names size (take k xs) (x ∷ []) ∙ ap (widened names size) (sym (take_one xs k x is h))

-- the labels of one item more
pub labels_widened : {A : Type 0} (labels : A → List Expr) (names : Names) (size common r : Shape) (is : List A) (k : ℕ) (i : A) (ls : List Expr) → i ≡ get_or is k i → k < length is → common ≡ widened names size (flat_map labels (take k is)) → ls ≡ labels i → r ≡ widened names common ls → r ≡ widened names size (flat_map labels (take (suc k) is))
labels_widened labels names size common r is k i ls at h c l e =
    e ∙ ap (λ (s : Shape). widened names s ls) c ∙ ap (widened names (widened names size (flat_map labels (take k is)))) l ∙ widened_again names size (flat_map labels (take k is)) (labels i) ∙ ap (widened names size) (sym (flat_take labels is k i at h))
