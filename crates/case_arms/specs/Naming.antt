-- Values that labels name.
use Rattle.std.specs.Prelude.{◌≡◌, ℕ, zero, suc, Bool, true, ◌&&◌, nat_eq, List}
use Rattle.std.specs.List.{list_any}
use Rattle.vlog_syntax.specs.declared.stmt.CaseKind.{CaseKind}
use Rattle.vlog_meaning.specs.declared.shapes.Shape.{Shape}
use Rattle.vlog_meaning.specs.Scopes.{Names}
use Rattle.vlog_effects.specs.Steps.{Selection}

-- For proofs alone.

-- a case of this kind, in these names and at this size
pub record IsOf (c : Selection) (names : Names) (kind : CaseKind) (size : Shape) : Type 0 where
  pub names_are : c.names ≡ names
  pub kind_is : c.kind ≡ kind
  pub width_is : c.width ≡ size.width
  pub sign_is : c.is_signed ≡ size.is_signed

abbrev pub has : List ℕ → ℕ → Bool
has values v = list_any (λ x. nat_eq x v) values

-- each number below a bound is among the values
abbrev pub has_all : List ℕ → ℕ → Bool
has_all values zero = true
has_all values (suc n) = has values n && has_all values n
