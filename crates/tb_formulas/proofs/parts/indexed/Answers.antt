use Rattle.tb_formulas.proofs.Bits.{known_signal, select_fits, number_select_fits}
use Rattle.tb_formulas.proofs.parts.indexed.Goals as goal

pub returns-in-Some-Signal-clause-fits : goal.returns-in-Some-Signal-clause-fits
returns-in-Some-Signal-clause-fits c = λ widths has inner. select_fits widths _ _ c.args.place (known_signal widths c.args.decl _ _ _ _ c.in-Some-Signal.field-0 c.in-Some-Signal.is (rw c.in-Some-Signal.is at c.in-Some-Signal.field-0-is) has) c.requires.narrow c.requires.sized inner

pub returns-in-Some-Constant-clause-fits : goal.returns-in-Some-Constant-clause-fits
returns-in-Some-Constant-clause-fits c = λ widths has inner. number_select_fits widths c.bits.result _ c.args.place c.requires.narrow c.requires.sized inner

pub returns-in-None-clause-fits : goal.returns-in-None-clause-fits
returns-in-None-clause-fits c = λ widths has inner. number_select_fits widths 0 _ c.args.place c.requires.narrow c.requires.sized inner
