use Rattle.std.proofs.Common.{length}
use Rattle.script_lines.proofs.Tokenizing.{Whole}
use Rattle.script_lines.proofs.token.tokens.Given as goal

abbrev pub invariant-loop-rest : goal.invariant-loop-rest
invariant-loop-rest l = Whole l.tokens l.rest l.line

abbrev pub decreases-loop-rest : goal.decreases-loop-rest
decreases-loop-rest l = length l.rest
