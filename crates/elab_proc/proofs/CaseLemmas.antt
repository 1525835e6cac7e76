-- Labels that match whatever the selector is, and each of several expressions in which nothing is wrong.
use Rattle.elab_proc.proofs.Common.{◌≡◌, zero, suc, ℕ, ◌<◌, Bool, true, false, ◌||◌, nat_eq, List, [], ◌∷◌, refl, sym, ap, ◌∙◌, arith, length, get_or, take, flat_map, flat_map-append, Expr, CaseItem}
use Rattle.elab_proc.proofs.Common.{CaseKind, Fault, Names, IsWhole, left_nil, right_nil, Selection, always, dont_care, wrong, labels_in}
use Rattle.std.specs.Prelude.{◌-◌, ◌^◌}
pub use Rattle.vlog_refusals.proofs.SizeLemmas.{within_at, labels_within_at, within_right, labels_within, common_within}

-- Each of several.

pub each_nil : {A B : Type 0} (g : A → List B) (xs : List A) (k : ℕ) (x : A) → x ≡ get_or xs k x → k < length xs → flat_map g xs ≡ [] → g x ≡ []
each_nil g [] k x is h e = absurd (omega arith)
each_nil {A} {B} g (y ∷ ys) zero x is h e = ap g is ∙ left_nil (g y) (flat_map g ys) e
each_nil g (y ∷ ys) (suc k) x is h e = each_nil g ys k x is (omega arith) (right_nil (g y) (flat_map g ys) e)

pub each_whole : (names : Names) (xs : List Expr) (k : ℕ) (x : Expr) → x ≡ get_or xs k x → k < length xs → flat_map (wrong names) xs ≡ [] → IsWhole names x
each_whole names xs k x is h e = left_nil _ _ (each_nil (wrong names) xs k x is h e)

-- what the labels of an item have, from what all labels have
pub labels_nil : (g : Expr → List Fault) (is : List CaseItem) (k : ℕ) (i : CaseItem) → i ≡ get_or is k i → k < length is → flat_map g (flat_map labels_in is) ≡ [] → flat_map g (labels_in i) ≡ []
labels_nil g [] k i is h e = absurd (omega arith)
labels_nil g (j ∷ js) zero i is h e = ap (λ (x : CaseItem). flat_map g (labels_in x)) is ∙ left_nil (flat_map g (labels_in j)) (flat_map g (flat_map labels_in js)) (sym (flat_map-append g (labels_in j) (flat_map labels_in js)) ∙ e)
labels_nil g (j ∷ js) (suc k) i is h e = labels_nil g js k i is (omega arith) (right_nil (flat_map g (labels_in j)) (flat_map g (flat_map labels_in js)) (sym (flat_map-append g (labels_in j) (flat_map labels_in js)) ∙ e))

-- Labels that always match.

pub or_again : (a b c : Bool) → a || (b || c) ≡ (a || b) || c
or_again true b c = refl
or_again false b c = refl

pub or_false : (b : Bool) → b || false ≡ b
or_false true = refl
or_false false = refl

always_take : (c : Selection) (xs : List Expr) (k : ℕ) (x : Expr) → x ≡ get_or xs k x → k < length xs → always c (take (suc k) xs) ≡ always c (take k xs) || nat_eq (dont_care c.kind x) (2 ^ c.width - 1)
always_take c [] k x is h = absurd (omega arith)
always_take c (y ∷ ys) zero x is h = or_false _ ∙ ap (λ (z : Expr). nat_eq (dont_care c.kind z) (2 ^ c.width - 1)) (sym is)
always_take c (y ∷ ys) (suc k) x is h = ap (λ (b : Bool). nat_eq (dont_care c.kind y) (2 ^ c.width - 1) || b) (always_take c ys k x is (omega arith)) ∙ or_again (nat_eq (dont_care c.kind y) (2 ^ c.width - 1)) (always c (take k ys)) (nat_eq (dont_care c.kind x) (2 ^ c.width - 1))

or_true : (b : Bool) → b || true ≡ true
or_true true = refl
or_true false = refl

free_is : (c : Selection) (kind : CaseKind) (width : ℕ) (x : Expr) → c.kind ≡ kind → c.width ≡ width → nat_eq (dont_care c.kind x) (2 ^ c.width - 1) ≡ nat_eq (dont_care kind x) (2 ^ width - 1)
free_is c kind width x k w = ap (λ (y : CaseKind). nat_eq (dont_care y x) (2 ^ c.width - 1)) k ∙ ap (λ (n : ℕ). nat_eq (dont_care kind x) (2 ^ n - 1)) w

pub always_hit : (c : Selection) (kind : CaseKind) (width : ℕ) (xs : List Expr) (k : ℕ) (x : Expr) (f free : Bool) → x ≡ get_or xs k x → k < length xs → c.kind ≡ kind → c.width ≡ width → free ≡ nat_eq (dont_care kind x) (2 ^ width - 1) → free ≡ true → f ≡ true → f ≡ always c (take (suc k) xs)
always_hit c kind width xs k x f free at h ck cw is hit e =
    e ∙ sym (always_take c xs k x at h ∙ ap (λ (b : Bool). always c (take k xs) || b) (free_is c kind width x ck cw ∙ sym is ∙ hit) ∙ or_true (always c (take k xs)))

pub always_miss : (c : Selection) (kind : CaseKind) (width : ℕ) (xs : List Expr) (k : ℕ) (x : Expr) (f g free : Bool) → x ≡ get_or xs k x → k < length xs → c.kind ≡ kind → c.width ≡ width → free ≡ nat_eq (dont_care kind x) (2 ^ width - 1) → free ≡ false → f ≡ g → g ≡ always c (take k xs) → f ≡ always c (take (suc k) xs)
always_miss c kind width xs k x f g free at h ck cw is miss e before =
    e ∙ before ∙ sym (always_take c xs k x at h ∙ ap (λ (b : Bool). always c (take k xs) || b) (free_is c kind width x ck cw ∙ sym is ∙ miss) ∙ or_false (always c (take k xs)))
