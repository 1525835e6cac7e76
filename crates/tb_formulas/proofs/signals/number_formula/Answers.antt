use Rattle.tb_formulas.proofs.Bits.{number_fits}
use Rattle.tb_formulas.proofs.signals.number_formula.Goals as goal

pub returns-clause-fits : goal.returns-clause-fits
returns-clause-fits c = λ widths. number_fits widths c.extend.result c.args.context.width c.extend.ensures.fits
