use Rattle.tb_formulas.proofs.Common.{arith, refl, sym, ◌∙◌, pow_pos}
use Rattle.tb_formulas.specs.declared.formula.Formula.TheVariants as v
use Rattle.tb_formulas.proofs.Values.{says_number}
use Rattle.tb_formulas.proofs.Bits.{number_fits, below_all}
use Rattle.tb_formulas.proofs.parts.raised.Goals as goal

pub returns-then-places-from-clause-means : goal.returns-then-places-from-clause-means
returns-then-places-from-clause-means c = λ store. sym (says_number (v.Number 0) store 0 refl) ∙ below_all (store c.args.signal) c.args.places c.args.width c.requires.some (omega (arith, c.if-places-from.true, c.from.ensures))

pub returns-then-places-from-clause-fits : goal.returns-then-places-from-clause-fits
returns-then-places-from-clause-fits c = λ widths known. number_fits widths 0 c.args.width (pow_pos c.args.width)
