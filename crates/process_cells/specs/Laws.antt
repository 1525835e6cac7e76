-- Laws of processes: from what is refused in their statements to what is asked where they are built, and that what is built is
-- the process.
use Rattle.std.specs.Prelude.{◌≡◌, Bool, false, List, [], None}
use Rattle.mcy_base.specs.declared.span.Span.{Span}
use Rattle.vlog_syntax.specs.declared.item.Process.{Process}
use Rattle.vlog_syntax.specs.declared.stmt.EventControl.{EventControl}
use Rattle.vlog_syntax.specs.declared.stmt.Stmt.{Stmt}
use Rattle.vlog_meaning.specs.Scopes.{Names}
use Rattle.vlog_effects.specs.Effects.{IsBlocking}
use Rattle.vlog_effects.specs.Steps.{Steps, steps_of}
use Rattle.vlog_effects.specs.Latches.{targets, latch_of}
use Rattle.net_builder.specs.Building.{Building, HasSignals}
use Rattle.flat_runs.specs.Meanings.{Combinational, Clocked}
use Rattle.flat_runs.specs.Adding.{HasOwnNets, AddsItem}
use Rattle.flat_runs.specs.Parts.{StandsBelow as Stands}
use Rattle.elab_proc.specs.Order.{IsFirst}
use Rattle.elab_proc.specs.Refusals.{AreSized, step_refusals}
use Rattle.process_latches.specs.Mixed.{mixed_refusals}
use Rattle.process_latches.specs.Refused.{body_refusals}
use Rattle.process_latches.specs.Sound.{sound, has_stop}
use Rattle.process_latches.specs.Writes.{writes}
use Rattle.proc_muxes.specs.Builds.{Work}
use Rattle.proc_muxes.specs.Clear.{IsReady}
use Rattle.proc_muxes.specs.Shows.{StandsBelow}
use Rattle.process_cells.specs.Ready.{AllWait}
use Rattle.process_cells.specs.Items.{AddsProcess}
use Rattle.process_cells.specs.Laid.{lay_process}
use Rattle.process_cells.specs.Processes.{variables, process_effect, Combines, HasOneKind, CanBeBuilt, Clocks}

-- A statement in which no refusal is the first one is ready to be built: its expressions and left sides make cells, and the
-- variables that it assigns have their bits.
abbrev pub AcceptedAreReady : Type 0
AcceptedAreReady = (is_combinational : Bool) (written : List Bool) (s : Stmt) (names : Names) (a : Work) → IsFirst (step_refusals is_combinational written (steps_of s names)) None → AreSized names → HasSignals names a.building → StandsBelow a → AllWait a (targets (steps_of s names)) → IsReady names (steps_of s names) a

-- The steps of a statement in which nothing is refused are sound as they stand: they assign the same variables, have the same
-- latch, and no loop or case in them is refused.
abbrev pub AcceptedAreSound : Type 0
AcceptedAreSound = (is_combinational : Bool) (written : List Bool) (s : Stmt) (names : Names) → step_refusals is_combinational written (steps_of s names) ≡ [] → let steps = steps_of s names in (targets (sound steps) ≡ targets steps) × (latch_of (sound steps) ≡ latch_of steps) × (has_stop (sound steps) ≡ false)

-- Where no second kind of assignment is refused, each variable has assignments of one kind.
abbrev pub MixedAreRefused : Type 0
MixedAreRefused = (steps : Steps) → mixed_refusals (writes steps) ≡ [] → HasOneKind steps

-- The body of a process in which nothing is refused can be built.
abbrev pub AcceptedCanBeBuilt : Type 0
AcceptedCanBeBuilt = (is_combinational : Bool) (names : Names) (written : List Bool) (always : Span) (control : EventControl) (s : Stmt) → body_refusals is_combinational names written always control s ≡ [] → CanBeBuilt is_combinational (steps_of s names)

-- A combinational process without a latch that was built is added as an item.
abbrev pub CombinationalAreAdded : Type 0
CombinationalAreAdded = (s : Stmt) (names : Names) (old new : Building) → HasSignals names old → HasOwnNets old → Stands old → IsBlocking (steps_of s names) → latch_of (steps_of s names) ≡ None → Combines (steps_of s names) old new
    → AddsItem old new (Combinational (variables (steps_of s names)) (process_effect old (steps_of s names)))

-- So is a clocked one in which each variable has assignments of one kind.
abbrev pub ClockedAreAdded : Type 0
ClockedAreAdded = (steps : Steps) (old new : Building) → HasOwnNets old → Stands old → HasOneKind steps → Clocks steps old new → AddsItem old new (Clocked (variables steps) (process_effect old steps))

-- What is added of a process is what it lays. So a process has one netlist from what the builder has before.
abbrev pub ProcessesAreLaid : Type 0
ProcessesAreLaid = (names : Names) (p : Process) (old new : Building) → AddsProcess names p old new → new ≡ lay_process names p old
