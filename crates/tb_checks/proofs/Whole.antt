-- Expressions of nets in which nothing is wrong have shapes.
use Rattle.tb_checks.proofs.Common.{◌≡◌, ℕ, max, [], map, sym, ap, ◌∙◌, Option, None, Expr, SystemFunction, Fault, Shape, least, Names, IsWhole, fault, left_nil, least_none, wrong, net_wrong, randoms}

pub net_whole : (names : Names) (x : Expr) → net_wrong names x ≡ [] → IsWhole names x
net_whole names x e = left_nil _ _ (left_nil (wrong names x) (map (fault SystemFunction) (randoms x)) e)

pub net_is_whole : (names : Names) (x : Expr) (o : Option Fault) → o ≡ least (net_wrong names x) → o ≡ None → IsWhole names x
net_is_whole names x o is none = net_whole names x (least_none (net_wrong names x) (sym is ∙ none))

-- the context of a value that is assigned to so many bits
abbrev pub SameAssigned : (own a : Shape) → ℕ → ℕ → Type 0
SameAssigned own a w width = let here : Shape = record { width = w; is_signed = own.is_signed } in let there : Shape = record { width = max a.width width; is_signed = a.is_signed } in here ≡ there

pub assigned_is : (own a : Shape) (w width : ℕ) → w ≡ max own.width width → own ≡ a → SameAssigned own a w width
assigned_is own a w width e f =
    let by_width : ℕ → Shape = λ n. record { width = n; is_signed = own.is_signed } in
    let by_own : Shape → Shape = λ s. record { width = max s.width width; is_signed = s.is_signed } in
    ap by_width e ∙ ap by_own f
