use Rattle.std.proofs.Common.{◌≡◌, map, take}
use Rattle.tag_lines.specs.Uses.{all_uses, uses_of}
use Rattle.tag_lines.proofs.uses.+uses.Given as goal

abbrev pub invariant-all_uses-loop-expr : goal.invariant-all_uses-loop-expr
invariant-all_uses-loop-expr l = l.all ≡ all_uses (map (uses_of l.tests l.places) (take l.expr-index l.exprs))
