use Rattle.flat_clocks.proofs.Common.{expr_reads, names_in}
use Rattle.flat_clocks.proofs.Firsts.{moved}
use Rattle.flat_clocks.proofs.reads.assignment_read.Goals as goal

pub returns : goal.returns
returns c = c.earlier.ensures _ _ c.left_read.ensures (moved (expr_reads (names_in c.args.names.now)) _ _ c.expr_read.result c.get.ensures c.expr_read.ensures)
