use Rattle.tb_formulas.proofs.Common.{arith}
use Rattle.tb_formulas.proofs.Bits.{slice_fits}
use Rattle.tb_formulas.proofs.parts.signal_part.Goals as goal

pub returns-clause-fits : goal.returns-clause-fits
returns-clause-fits c = λ widths known. slice_fits widths c.args.signal _ c.args.width known (omega (arith, c.if-place-first-ge128.false)) c.requires.narrow
