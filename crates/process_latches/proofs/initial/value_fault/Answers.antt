use Rattle.process_latches.proofs.Common.{map, refl, sym, ap, ◌∙◌, Shape, least, names_of, sense, assigned, fault, not_constant, least_none, kept, passed, context_is}
use Rattle.std.specs.Prelude.{false}
use Rattle.vlog_meaning.specs.declared.fault.Cause.TheVariants.{DivideByZero}
use Rattle.process_latches.proofs.Initials.{only_faults}
use Rattle.process_latches.proofs.initial.value_fault.Goals as goal

pub shape_of-own-requires-in-None : goal.shape_of-own-requires-in-None
shape_of-own-requires-in-None c = least_none (sense (names_of c.args.scope.now) c.args.value.now).faults (sym c.fault_in.ensures ∙ c.in-None.is)

pub zero_in-requires-clause-whole : goal.zero_in-requires-clause-whole
zero_in-requires-clause-whole c = least_none (sense (names_of c.args.scope.now) c.args.value.now).faults (sym c.fault_in.ensures ∙ c.in-None.is)

pub returns-in-Some : goal.returns-in-Some
returns-in-Some c =
    let x = sense (names_of c.args.scope.now) c.args.value.now in
    kept (not_constant x) (map (fault DivideByZero) (x.zeros (assigned x c.args.width))) c.fault_in.result c.in-Some.fault (only_faults x c.fault_in.result c.requires.constant c.fault_in.ensures) c.in-Some.is

pub returns-in-None : goal.returns-in-None
returns-in-None c =
    let x = sense (names_of c.args.scope.now) c.args.value.now in
    let to : Shape = record { width = c.args.width; is_signed = false } in
    let size = context_is c.shape_of-own.result to x.shape to c.max.result c.max.ensures c.shape_of-own.ensures.shape refl in
    passed (not_constant x) (map (fault DivideByZero) (x.zeros (assigned x c.args.width))) c.fault_in.result c.zero_in.result (only_faults x c.fault_in.result c.requires.constant c.fault_in.ensures) c.in-None.is
    (c.zero_in.ensures ∙ ap (λ (s : Shape). least (map (fault DivideByZero) (x.zeros s))) size)
