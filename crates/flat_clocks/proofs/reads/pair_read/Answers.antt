use Rattle.flat_clocks.proofs.reads.pair_read.Goals as goal

pub returns : goal.returns
returns c = c.earlier.ensures _ _ c.expr_read.ensures c.expr_read-2.ensures
