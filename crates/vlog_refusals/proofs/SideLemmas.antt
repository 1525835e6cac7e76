-- The context of a right side, and expressions in which nothing is wrong.
use Rattle.vlog_refusals.proofs.Common.{◌≡◌, ℕ, max, List, [], ◌++◌, sym, ap, ◌∙◌, Option, None, Expr, Fault, Shape, least, Names, sense, IsWhole, left_nil, right_nil, least_none, wrong}

abbrev pub SameContext : (own a b : Shape) → ℕ → Type 0
SameContext own a b w = let here : Shape = record { width = w; is_signed = own.is_signed } in let there : Shape = record { width = max a.width b.width; is_signed = a.is_signed } in here ≡ there

pub context_is : (own to a b : Shape) (w : ℕ) → w ≡ max own.width to.width → own ≡ a → to ≡ b → SameContext own a b w
context_is own to a b w e f g =
    let by_width : ℕ → Shape = λ n. record { width = n; is_signed = own.is_signed } in
    let by_own : Shape → Shape = λ s. record { width = max s.width to.width; is_signed = s.is_signed } in
    let by_to : Shape → Shape = λ s. record { width = max a.width s.width; is_signed = a.is_signed } in
    ap by_width e ∙ ap by_own f ∙ ap by_to g

-- where nothing is wrong in it, an expression has a shape
pub whole_of : (unsupported : Names → Expr → List Fault) (names : Names) (x : Expr) → wrong unsupported names x ≡ [] → IsWhole names x
whole_of unsupported names x e = left_nil (sense names x).faults (unsupported names x) e

-- the same of two
pub both_whole : (unsupported : Names → Expr → List Fault) (names : Names) (x y : Expr) (o : Option Fault) → o ≡ least (wrong unsupported names x ++ wrong unsupported names y) → o ≡ None → IsWhole names x × IsWhole names y
both_whole unsupported names x y o is none =
    let e : wrong unsupported names x ++ wrong unsupported names y ≡ [] = least_none (wrong unsupported names x ++ wrong unsupported names y) (sym is ∙ none) in
    (whole_of unsupported names x (left_nil (wrong unsupported names x) (wrong unsupported names y) e), whole_of unsupported names y (right_nil (wrong unsupported names x) (wrong unsupported names y) e))
