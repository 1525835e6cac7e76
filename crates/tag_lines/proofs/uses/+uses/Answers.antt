use Rattle.std.proofs.Common.{arith}
use Rattle.tag_lines.specs.Uses.{uses_of}
use Rattle.tag_lines.proofs.UseList.{all_more}
use Rattle.tag_lines.proofs.uses.+uses.Goals as goal

pub all_uses-loop-expr-preserved : goal.all_uses-loop-expr-preserved
all_uses-loop-expr-preserved t c = all_more (uses_of c.args.tests c.args.places.now) c.args.exprs.now c.loop-expr.expr-index c.expr-item.result c.loop-expr.all c.uses_of-one.result c.both_uses-all.result c.expr-item.is (omega arith) c.loop-expr.invariant c.uses_of-one.ensures c.both_uses-all.ensures
