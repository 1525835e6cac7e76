-- What is refused in a process (IEEE 1364-2005, 9.2, 9.7 and 9.9).
use Rattle.std.specs.Prelude.{Bool, true, false, List, [], ◌∷◌, ◌++◌, Option, None, Some}
use Rattle.std.specs.List.{flat_map}
use Rattle.mcy_base.specs.declared.span.Span.{Span}
use Rattle.vlog_syntax.specs.declared.item.Process.{Process}
use Rattle.vlog_syntax.specs.declared.stmt.CaseItem.{CaseItem}
use Rattle.vlog_syntax.specs.declared.stmt.EventControl.{EventControl}
use Rattle.vlog_syntax.specs.declared.stmt.EventControl.TheVariants as c
use Rattle.vlog_syntax.specs.declared.stmt.EventExpression.{EventExpression}
use Rattle.vlog_syntax.specs.declared.stmt.Stmt.{Stmt, out-Stmt}
use Rattle.vlog_syntax.specs.declared.stmt.Stmt.TheOpen as s
use Rattle.vlog_syntax.specs.declared.stmt.Stmt.TheOpen.{Stmt-F}
use Rattle.vlog_meaning.specs.declared.fault.Cause.TheVariants.{Unknown}
use Rattle.vlog_meaning.specs.declared.scope.Decl.{Decl}
use Rattle.vlog_meaning.specs.Scopes.{Names}
use Rattle.vlog_meaning.specs.Senses.{fault}
use Rattle.vlog_effects.specs.Latches.{Target}
use Rattle.vlog_effects.specs.Steps.{Steps, steps_of}
use Rattle.elab_proc.specs.declared.refusal.Refusal.{Refusal}
use Rattle.elab_proc.specs.declared.refusal.Refusal.TheVariants.{Wrong, Unsupported, Latch}
use Rattle.elab_proc.specs.Refusals.{step_refusals}
use Rattle.process_events.specs.Events.{Sensitivity, Once, Combinational, Clocked, Refused, sensitivity}
use Rattle.process_latches.specs.Initial.{initial_refusals}
use Rattle.process_latches.specs.Latching.{latch_in}
use Rattle.process_latches.specs.Mixed.{mixed_refusals}
use Rattle.process_latches.specs.Sound.{sound}
use Rattle.process_latches.specs.Writes.{writes}

-- a latch, at the `always`
abbrev pub latch_refusal : Span → Option Target → List Refusal
latch_refusal always None = []
latch_refusal always (Some x) = Latch always x.number ∷ []

-- only a combinational process has one
abbrev pub latch_refusals : Bool → Span → Steps → List Refusal
latch_refusals false always steps = []
latch_refusals true always steps = latch_refusal always (latch_in steps)

-- names of a list of events that are not declared
abbrev pub undeclared : Span → Option Decl → List Refusal
undeclared at None = Wrong (fault Unknown at) ∷ []
undeclared at (Some d) = []

abbrev pub event_refusals : Names → EventExpression → List Refusal
event_refusals names e = undeclared e.name.span (names e.name.name)

abbrev pub control_refusals : Names → EventControl → List Refusal
control_refusals names c.Implicit = []
control_refusals names (c.List events) = flat_map (event_refusals names) events

-- What is refused in the events and the statements of an `always`, with the kinds of its assignments and its latch.
abbrev pub body_refusals : Bool → Names → List Bool → Span → EventControl → Stmt → List Refusal
body_refusals is_combinational names written always control body =
    let steps = sound (steps_of body names) in
    control_refusals names control ++ (step_refusals is_combinational written (steps_of body names) ++ (mixed_refusals (writes steps) ++ latch_refusals is_combinational always steps))

-- the statement of an `always` waits for events, and then does its body
abbrev pub waiting_refusals : Bool → Names → List Bool → Span → Stmt-F Stmt CaseItem → List Refusal
waiting_refusals is_combinational names written always (s.EventControl at control body) = body_refusals is_combinational names written always control body
waiting_refusals is_combinational names written always other = []

-- A process whose list of events is not supported is refused for that alone. One that runs once gives start values.
abbrev pub refusals_by : Names → List Bool → Span → Sensitivity → Stmt → List Refusal
refusals_by names written always (Refused at feature) body = Unsupported at feature ∷ []
refusals_by names written always Combinational body = waiting_refusals true names written always (out-Stmt body)
refusals_by names written always (Clocked n) body = waiting_refusals false names written always (out-Stmt body)
refusals_by names written always Once body = initial_refusals names body

abbrev pub process_refusals : Names → List Bool → Process → List Refusal
process_refusals names written p = refusals_by names written p.span (sensitivity p) p.body
