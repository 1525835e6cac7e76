use Rattle.process_cells.proofs.Common.{refl, sym, ap, ◌∙◌, names_of, said}
use Rattle.process_events.specs.Events as v
use Rattle.process_cells.proofs.Starting.{process_starts_with, process_starts_not}
use Rattle.process_cells.proofs.starts.start_process.Goals as goal

pub returns-in-Once-clause-starts : goal.returns-in-Once-clause-starts
returns-in-Once-clause-starts c = λ written store none h. process_starts_with (names_of c.args.scope.now) written c.args.process.now c.get.result.now c.args.builder.now c.start_statement.new.builder store (sym c.sensitivity_of.ensures ∙ ap said c.in-Once.is) c.get.ensures c.start_statement.ensures.starts none h

pub returns-in-Combinational-clause-starts : goal.returns-in-Combinational-clause-starts
returns-in-Combinational-clause-starts c = λ written store none h. process_starts_not (names_of c.args.scope.now) c.args.process.now c.args.builder.now store v.Combinational (sym c.sensitivity_of.ensures ∙ ap said c.in-Combinational.is) refl h

pub returns-in-Clocked-clause-starts : goal.returns-in-Clocked-clause-starts
returns-in-Clocked-clause-starts c = λ written store none h. process_starts_not (names_of c.args.scope.now) c.args.process.now c.args.builder.now store (v.Clocked c.in-Clocked.field-0.now) (sym c.sensitivity_of.ensures ∙ ap said c.in-Clocked.is) refl h

pub returns-in-Refused-clause-starts : goal.returns-in-Refused-clause-starts
returns-in-Refused-clause-starts c = λ written store none h. process_starts_not (names_of c.args.scope.now) c.args.process.now c.args.builder.now store (v.Refused c.in-Refused.field-0 c.in-Refused.field-1) (sym c.sensitivity_of.ensures ∙ ap said c.in-Refused.is) refl h
