use Rattle.tb_formulas.proofs.Common.{arith}
use Rattle.tb_formulas.proofs.Values.{window_within}
use Rattle.tb_formulas.proofs.Bits.{number_fits}
use Rattle.tb_formulas.proofs.parts.fixed.Goals as goal

pub returns-in-Some-Constant-clause-fits : goal.returns-in-Some-Constant-clause-fits
returns-in-Some-Constant-clause-fits c = λ widths has. number_fits widths c.window.result c.args.width (window_within c.window.result _ c.args.width _ c.args.width c.window.ensures (omega arith))

pub returns-in-None-clause-fits : goal.returns-in-None-clause-fits
returns-in-None-clause-fits c = λ widths has. number_fits widths c.window-in-None.result c.args.width (window_within c.window-in-None.result _ c.args.width _ c.args.width c.window-in-None.ensures (omega arith))
