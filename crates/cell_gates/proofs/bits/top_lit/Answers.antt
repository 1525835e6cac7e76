use Rattle.cell_gates.proofs.Common.{◌-◌, length, false, arith, Fixed, not-zero}
use Rattle.cell_gates.proofs.CellNumbers.{top-at}
use Rattle.cell_gates.proofs.bits.top_lit.Goals as goal

pub returns : goal.returns
returns c = let some = not-zero (length c.args.bits.now) c.if-is_empty.ensures in top-at c.args.bits.now (length c.args.bits.now - 1) (Fixed false) (omega (arith, some))
