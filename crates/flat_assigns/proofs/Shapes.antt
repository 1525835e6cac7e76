-- The width and sign of a right side, and its refusals.
use Rattle.flat_assigns.proofs.Common.{◌≡◌, ℕ, List, [], ◌∷◌, ◌++◌, map, Option, Some, None, refl, sym, ap, ◌∙◌, Expr, Fault, Shape, least, Names, sense, fault, or_else, IsWhole, plan, left_nil}
use Rattle.flat_assigns.proofs.Common.{these_nil, least_none, refusals, right_refusals, right_shape}
use Rattle.vlog_meaning.specs.declared.fault.Cause.TheVariants.{DivideByZero}

others_same : (faults more these those : List Fault) → (faults ≡ [] → these ≡ those) → or_else (faults ++ more) these ≡ or_else (faults ++ more) those
others_same [] more these those h = ap (or_else more) (h refl)
others_same (x ∷ faults) more these those h = refl

-- where something is wrong in the right side, its width and sign play no part
pub same_refusals : (names : Names) (right : Expr) (c : Shape) (width : ℕ) → (IsWhole names right → c ≡ right_shape names right width) → refusals names right c ≡ right_refusals names right width
same_refusals names right c width h = others_same (sense names right).faults (plan names right).unsupported (map (fault DivideByZero) ((sense names right).zeros c)) (map (fault DivideByZero) ((sense names right).zeros (right_shape names right width))) (λ whole. ap (λ (s : Shape). map (fault DivideByZero) ((sense names right).zeros s)) (h whole))

pub whole_from : (names : Names) (right : Expr) (c : Shape) → refusals names right c ≡ [] → IsWhole names right
whole_from names right c e = left_nil _ _ (these_nil _ _ e)

pub none_there : (o : Option Fault) → ((f : Fault) → o ≡ Some f → ⊥) → o ≡ None
none_there None h = refl
none_there (Some f) h = absurd (h f refl)

-- what is not refused
pub whole_built : (names : Names) (right : Expr) (c : Shape) → ((f : Fault) → least (refusals names right c) ≡ Some f → ⊥) → IsWhole names right
whole_built names right c h = whole_from names right c (least_none _ (none_there (least (refusals names right c)) h))

pub some_wrong : (faults : List Fault) (o : Option Fault) (f : Fault) → o ≡ least faults → o ≡ Some f → faults ≡ [] → ⊥
unfolding least
some_wrong [] o f e is none = let both : None ≡ Some f = sym e ∙ is in cc
some_wrong (x ∷ faults) o f e is none = cc
