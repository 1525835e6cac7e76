use Rattle.tb_formulas.proofs.Common.{◌∙◌}
use Rattle.tb_formulas.proofs.Values.{held_bits, held_width}
use Rattle.tb_formulas.proofs.formula.bits_of.Goals as goal

pub returns-clause-value : goal.returns-clause-value
returns-clause-value c = c.bits.ensures.bits ∙ held_bits c.args.store.now c.args.signal c.index-store-signal.result c.index-store-signal.is c.requires

pub returns-clause-fits : goal.returns-clause-fits
returns-clause-fits c = rw (← held_width c.args.store.now c.args.signal c.index-store-signal.result c.index-store-signal.is c.requires) c.bits.ensures.fits
