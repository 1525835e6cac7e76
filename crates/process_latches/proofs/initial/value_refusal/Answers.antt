use Rattle.process_latches.proofs.Common.{names_of, sense, assigned, constant_faults_at}
use Rattle.process_latches.proofs.Initials.{no_signal, signal_first, constant_first}
use Rattle.process_latches.proofs.initial.value_refusal.Goals as goal

pub value_fault-requires-clause-constant : goal.value_fault-requires-clause-constant
value_fault-requires-clause-constant c = no_signal (sense (names_of c.args.scope.now) c.args.value.now).signals c.signal_in.result c.signal_in.ensures c.in-None.is

pub returns-in-None : goal.returns-in-None
returns-in-None c =
    let x = sense (names_of c.args.scope.now) c.args.value.now in
    let none = no_signal x.signals c.signal_in.result c.signal_in.ensures c.in-None.is in
    constant_first (names_of c.args.scope.now) c.args.name.now c.args.width c.args.value.now c.wrong.result none (c.wrong.ensures (constant_faults_at x (assigned x c.args.width)) c.value_fault.ensures)

pub returns-in-Some : goal.returns-in-Some
returns-in-Some c = signal_first (names_of c.args.scope.now) c.args.name.now c.args.width c.args.value.now c.signal_in.result _ c.unsupported.result c.signal_in.ensures c.in-Some.is c.unsupported.ensures
