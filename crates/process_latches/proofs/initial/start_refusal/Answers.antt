use Rattle.process_latches.proofs.Common.{ap, ◌∙◌, Some, names_of}
use Rattle.process_latches.proofs.Initials.{declared_first, sized_there}
use Rattle.process_latches.proofs.initial.start_refusal.Goals as goal

pub value_refusal-requires : goal.value_refusal-requires
value_refusal-requires c = (sized_there (names_of c.args.scope.now) c.args.name.now c.get.result _ (c.get.ensures ∙ ap (names_of c.args.scope.now) c.as_str.ensures) (c.in-Some-Signal.is ∙ ap Some c.in-Some-Signal.field-0-is) c.requires).narrow

pub returns-in-Some-Signal : goal.returns-in-Some-Signal
returns-in-Some-Signal c = declared_first (names_of c.args.scope.now) c.args.name.now c.args.value.now c.get.result _ c.value_refusal.result (c.get.ensures ∙ ap (names_of c.args.scope.now) c.as_str.ensures) (c.in-Some-Signal.is ∙ ap Some c.in-Some-Signal.field-0-is) c.value_refusal.ensures
