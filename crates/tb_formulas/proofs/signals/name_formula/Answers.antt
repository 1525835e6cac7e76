use Rattle.tb_formulas.proofs.Bits.{signal_fits, signed_fits}
use Rattle.tb_formulas.proofs.signals.name_formula.Goals as goal

pub returns-then-context-clause-fits : goal.returns-then-context-clause-fits
returns-then-context-clause-fits c = λ widths has. signed_fits widths c.args.decl c.in-Some-Signal.width c.in-Some-Signal.field-0-1 c.in-Some-Signal.field-0-2 c.in-Some-Signal.number c.in-Some-Signal.field-0 c.in-Some-Signal.is (rw c.in-Some-Signal.is at c.in-Some-Signal.field-0-is) c.args.context c.requires.sized c.requires.context has

pub returns-else-context-clause-fits : goal.returns-else-context-clause-fits
returns-else-context-clause-fits c = λ widths has. signal_fits widths c.args.decl c.in-Some-Signal.width c.in-Some-Signal.field-0-1 c.in-Some-Signal.field-0-2 c.in-Some-Signal.number c.in-Some-Signal.field-0 c.in-Some-Signal.is (rw c.in-Some-Signal.is at c.in-Some-Signal.field-0-is) c.args.context c.requires.context has
