-- What an expression uses: its tests, which are to be those of the project, and its names, which are to be assigned.
use Rattle.std.specs.Prelude.{ℕ, ◌==◌, Bool, true, ◌&&◌, List, [], ◌∷◌, nat_lt}
use Rattle.std.specs.List.{list_any}
use Rattle.tag_lines.specs.declared.expr.Expr.{Expr}
use Rattle.tag_lines.specs.declared.expr.Expr.TheOpen as e
use Rattle.tag_lines.specs.declared.expr.Expr.TheOpen.{Expr-F}
use Rattle.tag_lines.specs.declared.expr.Expr.TheFolds.{fold-Expr}
use Rattle.tag_lines.specs.declared.uses.Uses.{Uses}

abbrev pub no_uses : Uses
no_uses = record { tests = true; names = true }

abbrev pub both_uses : Uses → Uses → Uses
both_uses a b = record { tests = a.tests && b.tests; names = a.names && b.names }

abbrev pub all_uses : List Uses → Uses
all_uses [] = no_uses
all_uses (a ∷ more) = both_uses a (all_uses more)

abbrev pub is_place : List ℕ → ℕ → Bool
is_place places place = list_any (λ other. other == place) places

-- where there are so many tests, and the names with these places are assigned
abbrev pub uses_step : ℕ → List ℕ → Expr-F Uses → Uses
uses_step tests places (e.Number number) = no_uses
uses_step tests places (e.Text text) = no_uses
uses_step tests places (e.Name name) = record { tests = true; names = is_place places name }
uses_step tests places (e.Word test) = record { tests = nat_lt test tests; names = true }
uses_step tests places (e.Not operand) = operand
uses_step tests places (e.Compare left operator right) = both_uses left right
uses_step tests places (e.And operands) = all_uses operands
uses_step tests places (e.Or operands) = all_uses operands

abbrev pub uses_of : ℕ → List ℕ → Expr → Uses
uses_of tests places = fold-Expr Uses (uses_step tests places)
