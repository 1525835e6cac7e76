use Rattle.std.proofs.Common.{◌≡◌, take}
use Rattle.vlog_syntax.proofs.expr.+copy.Given as goal

abbrev pub invariant-copy_exprs-loop-part : goal.invariant-copy_exprs-loop-part
invariant-copy_exprs-loop-part l = l.copies ≡ take l.part-index l.parts
