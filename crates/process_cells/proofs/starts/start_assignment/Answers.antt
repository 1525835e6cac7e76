use Rattle.process_cells.proofs.Common.{ap, ◌∙◌, rules, the_lemmas, names_of, sized_there}
use Rattle.std.specs.Prelude.{Some}
use Rattle.process_cells.proofs.Starting.{signal_there, signal_starts, constant_starts, unknown_starts, unnamed_starts}
use Rattle.process_cells.proofs.starts.start_assignment.Goals as goal

pub start_signal-requires-clause-known : goal.start_signal-requires-clause-known
start_signal-requires-clause-known c = (signal_there (names_of c.args.scope.now) c.args.builder.now c.in-Name.name c.get.result _ (c.get.ensures ∙ ap (names_of c.args.scope.now) c.as_str.ensures) (c.in-Some-Signal.is ∙ ap Some c.in-Some-Signal.field-0-is) c.requires.signals).0

pub start_signal-requires-clause-wide : goal.start_signal-requires-clause-wide
start_signal-requires-clause-wide c = (signal_there (names_of c.args.scope.now) c.args.builder.now c.in-Name.name c.get.result _ (c.get.ensures ∙ ap (names_of c.args.scope.now) c.as_str.ensures) (c.in-Some-Signal.is ∙ ap Some c.in-Some-Signal.field-0-is) c.requires.signals).1

pub start_signal-requires-clause-some : goal.start_signal-requires-clause-some
start_signal-requires-clause-some c = (sized_there (names_of c.args.scope.now) c.in-Name.name c.get.result _ (c.get.ensures ∙ ap (names_of c.args.scope.now) c.as_str.ensures) (c.in-Some-Signal.is ∙ ap Some c.in-Some-Signal.field-0-is) c.requires.sized).some

pub start_signal-requires-clause-narrow : goal.start_signal-requires-clause-narrow
start_signal-requires-clause-narrow c = (sized_there (names_of c.args.scope.now) c.in-Name.name c.get.result _ (c.get.ensures ∙ ap (names_of c.args.scope.now) c.as_str.ensures) (c.in-Some-Signal.is ∙ ap Some c.in-Some-Signal.field-0-is) c.requires.sized).narrow

pub returns-in-Some-Signal-clause-starts : goal.returns-in-Some-Signal-clause-starts
returns-in-Some-Signal-clause-starts c = signal_starts (names_of c.args.scope.now) c.args.assignment.now c.in-Name.name c.get.result c.in-Some-Signal.width c.in-Some-Signal.field-0-1 c.in-Some-Signal.field-0-2 c.in-Some-Signal.number c.get-in-Some-Signal.result.now c.args.builder.now c.start_signal.new.builder c.in-Name.is (c.get.ensures ∙ ap (names_of c.args.scope.now) c.as_str.ensures) (c.in-Some-Signal.is ∙ ap Some c.in-Some-Signal.field-0-is) c.get-in-Some-Signal.ensures c.requires.signals c.start_signal.ensures.starts

pub returns-in-Some-Constant-clause-starts : goal.returns-in-Some-Constant-clause-starts
returns-in-Some-Constant-clause-starts c = constant_starts (names_of c.args.scope.now) c.args.assignment.now c.in-Name.name c.get.result _ _ _ c.args.builder.now c.in-Name.is (c.get.ensures ∙ ap (names_of c.args.scope.now) c.as_str.ensures) (c.in-Some-Constant.is ∙ ap Some c.in-Some-Constant.field-0-is)

pub returns-in-None-clause-starts : goal.returns-in-None-clause-starts
returns-in-None-clause-starts c = unknown_starts (names_of c.args.scope.now) c.args.assignment.now c.in-Name.name c.get.result c.args.builder.now c.in-Name.is (c.get.ensures ∙ ap (names_of c.args.scope.now) c.as_str.ensures) c.in-None.is

pub returns-in_default-clause-starts : goal.returns-in_default-clause-starts
returns-in_default-clause-starts c = unnamed_starts (names_of c.args.scope.now) c.args.assignment.now c.args.builder.now (search (rules, the_lemmas))
