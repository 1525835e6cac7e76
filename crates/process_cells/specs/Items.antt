-- What a process of a design means and adds (IEEE 1364-2005, 9.7 and 9.9): an item of the kind that its list of events gives it. One
-- that runs once gives start values, and adds nothing.
use Rattle.std.specs.Prelude.{◌≡◌, ℕ, true, false, List, [], ◌++◌, map, length, Option, None, Some}
use Rattle.netlist_core.specs.declared.cell.Cell.{Cell}
use Rattle.netlist_core.specs.declared.port.Register.{Register}
use Rattle.vlog_syntax.specs.declared.item.Process.{Process}
use Rattle.vlog_syntax.specs.declared.stmt.CaseItem.{CaseItem}
use Rattle.vlog_syntax.specs.declared.stmt.Stmt.{Stmt, out-Stmt}
use Rattle.vlog_syntax.specs.declared.stmt.Stmt.TheOpen as s
use Rattle.vlog_syntax.specs.declared.stmt.Stmt.TheOpen.{Stmt-F}
use Rattle.vlog_meaning.specs.Scopes.{Names, Store}
use Rattle.vlog_effects.specs.Effects.{numbers, left_by}
use Rattle.vlog_effects.specs.Expressions.{bits_of}
use Rattle.vlog_effects.specs.Steps.{Steps, steps_of}
use Rattle.net_builder.specs.declared.builder.Joint.{Joint}
use Rattle.net_builder.specs.Building.{Building, signal}
use Rattle.flat_runs.specs.Meanings.{Meaning}
use Rattle.flat_runs.specs.Meanings as m
use Rattle.flat_runs.specs.Adding.{AddsItem}
use Rattle.elab_proc.specs.declared.refusal.Refusal.{Refusal}
use Rattle.process_events.specs.Events.{Sensitivity, Once, Combinational, Clocked, Refused, sensitivity}
use Rattle.proc_muxes.specs.Counts.{cells_of}
use Rattle.process_cells.specs.Processes.{variables, Combines, AreNamed, Clocks, CanBeBuilt}

-- how many bits each signal has, by its number
abbrev pub Widths : Type 0
Widths = ℕ → ℕ

abbrev pub widths_in : Building → Widths
widths_in b k = length (signal b k)

-- the statement behind a list of events, where there is one
abbrev pub statement : Stmt → Stmt-F Stmt CaseItem → Stmt
statement body (s.EventControl at control inner) = inner
statement body other = body

abbrev pub process_steps : Names → Process → Steps
process_steps names p = steps_of (statement p.body (out-Stmt p.body)) names

-- what statements leave that are run from these values
abbrev pub effect_of : Widths → Steps → Store → Store
effect_of width steps store = numbers (left_by steps (λ k. bits_of (width k) (store k)))

-- what statements mean that are run at these times
abbrev pub meaning_of : Widths → Sensitivity → Steps → Option Meaning
meaning_of width Once steps = None
meaning_of width Combinational steps = Some (m.Combinational (variables steps) (effect_of width steps))
meaning_of width (Clocked clock) steps = Some (m.Clocked (variables steps) (effect_of width steps))
meaning_of width (Refused at feature) steps = None

abbrev pub process_meaning : Widths → Names → Process → Option Meaning
process_meaning width names p = meaning_of width (sensitivity p) (process_steps names p)

-- how many cells statements add
abbrev pub cells_by : Sensitivity → Steps → ℕ
cells_by Combinational steps = cells_of steps
cells_by (Clocked clock) steps = cells_of steps
cells_by other steps = 0

abbrev pub process_cells : Names → Process → ℕ
process_cells names p = cells_by (sensitivity p) (process_steps names p)

-- What is added.

abbrev pub AddsMeaning : Building → Building → Option Meaning → Type 0
AddsMeaning old new None = new ≡ old
AddsMeaning old new (Some x) = AddsItem old new x

-- the cells of the statements, and the joints or registers of their variables
abbrev pub BuildsBy : Sensitivity → Steps → Building → Building → Type 0
BuildsBy Combinational steps old new = Combines steps old new
BuildsBy (Clocked clock) steps old new = Clocks steps old new
BuildsBy other steps old new = new ≡ old

-- the registers of a clocked process have the bits, the names, the places and the start values of its variables
pub record AreRegisters (b : Building) (ks : List ℕ) (rs : List Register) : Type 0 where
  pub own : map (λ r. r.q) rs ≡ map (signal b) ks
  pub named : AreNamed b ks rs

abbrev pub HasRegisters : Sensitivity → Steps → Building → List Register → Type 0
HasRegisters (Clocked clock) steps b rs = AreRegisters b (variables steps) rs
HasRegisters other steps b rs = rs ≡ []

-- Statements are added that are run at these times: what they mean, by their cells in order and by joints or registers, and nothing
-- else.
pub record AddsBy (when : Sensitivity) (steps : Steps) (old new : Building) : Type 0 where
  pub adds : AddsMeaning old new (meaning_of (widths_in old) when steps)
  pub builds : BuildsBy when steps old new
  pub cells : List Cell
  pub cells_are : new.cells ≡ old.cells ++ cells
  pub count : length cells ≡ cells_by when steps
  pub joints : List Joint
  pub joints_are : new.joints ≡ old.joints ++ joints
  pub registers : List Register
  pub registers_are : new.registers ≡ old.registers ++ registers
  pub stored : HasRegisters when steps old registers
  pub signals : new.signals ≡ old.signals
  pub declared : new.declared ≡ old.declared
  pub starts : new.starts ≡ old.starts

abbrev pub AddsProcess : Names → Process → Building → Building → Type 0
AddsProcess names p old new = AddsBy (sensitivity p) (process_steps names p) old new

-- A process is added; or it is refused, and adds nothing.
abbrev pub Adds : Names → Process → Building → Building → Option Refusal → Type 0
Adds names p old new None = AddsProcess names p old new
Adds names p old new (Some refusal) = new ≡ old

-- For proofs alone.

-- what is asked where statements are built that are run at these times
abbrev pub IsFit : Sensitivity → Steps → Type 0
IsFit Combinational steps = CanBeBuilt true steps
IsFit (Clocked clock) steps = CanBeBuilt false steps
IsFit other steps = Unit {0}
