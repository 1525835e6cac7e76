-- How the items of a flattened design are built: why they are refused, which cells they add, and what is left.
use Rattle.std.specs.Prelude.{◌≡◌, ℕ, ◌+◌, ◌<◌, ◌≤◌, Bool, List, [], ◌++◌, length, map, option_map, Option, None, Some}
use Rattle.mcy_base.specs.declared.kind.Kind.TheVariants.{Cells}
use Rattle.netlist_core.specs.declared.cell.Cell.{Cell}
use Rattle.vlog_syntax.specs.declared.expr.Expr.{Expr}
use Rattle.vlog_syntax.specs.declared.expr.Expr.TheVariants as e
use Rattle.vlog_syntax.specs.declared.feature.Feature.{Feature}
use Rattle.vlog_syntax.specs.declared.feature.Feature.TheVariants as feature
use Rattle.vlog_syntax.specs.declared.item.Process.{Process as Tree}
use Rattle.vlog_syntax.specs.declared.left_side.LeftSide.{LeftSide}
use Rattle.vlog_syntax.specs.declared.left_side.LeftSide.TheVariants as l
use Rattle.mcy_base.specs.declared.span.Span.{Span}
use Rattle.vlog_meaning.specs.declared.fault.Cause.{Cause}
use Rattle.vlog_meaning.specs.declared.fault.Cause.TheVariants as cause
use Rattle.vlog_meaning.specs.declared.fault.Fault.{Fault}
use Rattle.vlog_meaning.specs.Answers.{least}
use Rattle.vlog_meaning.specs.Scopes.{Names}
use Rattle.vlog_meaning.specs.Senses.{fault}
use Rattle.vlog_effects.specs.Expressions.{width_of}
use Rattle.net_builder.specs.declared.error.ElabError.{ElabError}
use Rattle.net_builder.specs.declared.error.ElabError.TheVariants as elab
use Rattle.net_builder.specs.Building.{Building, HasSignals, signal}
use Rattle.expr_plans.specs.Made.{Made, made_of}
use Rattle.net_builder.specs.Refusals.{max_cells}
use Rattle.elab_proc.specs.declared.refusal.Refusal.{Refusal}
use Rattle.elab_proc.specs.declared.refusal.Refusal.TheVariants.{Wrong, TwoWriters}
use Rattle.elab_proc.specs.Order.{IsFirst}
use Rattle.elab_proc.specs.Refusals.{same_form}
use Rattle.flat_runs.specs.Meanings.{Meaning}
use Rattle.flat_assigns.specs.declared.refusal.Refusal.{Refusal as AssignRefusal}
use Rattle.flat_assigns.specs.declared.refusal.Refusal.TheVariants as assigned
use Rattle.flat_assigns.specs.declared.refusal.AssignError.{AssignError}
use Rattle.flat_assigns.specs.declared.refusal.AssignError.TheVariants as assign
use Rattle.flat_assigns.specs.Assignments.{IsRefusal, assignment}
use Rattle.flat_assigns.specs.Built.{IsBuilt, IsReady}
use Rattle.flat_assigns.specs.Laid.{lay_assignment}
use Rattle.flat_assigns.specs.Sides.{left_width}
use Rattle.flat_assigns.specs.Values.{right_cells, right_refusals}
use Rattle.process_events.specs.Events.{sensitivity}
use Rattle.process_latches.specs.Refused.{process_refusals}
use Rattle.process_cells.specs.Items.{Widths, AddsMeaning, AddsProcess, BuildsBy, process_cells, process_steps, widths_in}
use Rattle.flat_instances.specs.Places.{Place}
use Rattle.flat_instances.specs.declared.item.FlatItem.{FlatItem}
use Rattle.flat_instances.specs.declared.item.FlatItem.TheVariants as f
use Rattle.elab_items.specs.declared.error.BuildError.{BuildError}
use Rattle.elab_items.specs.declared.error.BuildError.TheVariants.{Refused, TooMany, Memory}
use Rattle.elab_items.specs.declared.error.Reason.{Reason}
use Rattle.elab_items.specs.declared.error.Reason.TheVariants.{Listed, Found, Start}
use Rattle.elab_items.specs.Starts.{names_at, start_error}
use Rattle.elab_items.specs.Laid.{lay_item}
use Rattle.elab_items.specs.Meanings.{Means}
use Rattle.elab_items.specs.Writers.{HasWriter, TellsWriters}

-- Cells.

-- The cells of an item that is an assignment: those of its right side, where its left side has so many bits.
abbrev pub item_cells : Widths → List Place → FlatItem → List Made
item_cells width places (f.Assigns k left right) = right_cells (names_at places k) right (left_width (names_at places k) left)
item_cells width places (f.Drives k net value) = right_cells (names_at places k) value (left_width (names_at places k) (l.Name net))
item_cells width places (f.Enters port k value) = right_cells (names_at places k) value (width port)
item_cells width places (f.Leaves k value inside port) = right_cells (names_at places inside) (e.Name port) (width_of (names_at places k) value)
item_cells width places other = []

-- how many cells an item adds
abbrev pub cell_count : Widths → List Place → FlatItem → ℕ
cell_count width places (f.Runs k p) = process_cells (names_at places k) p
cell_count width places item = length (item_cells width places item)

-- Refusals.

-- what is refused in an assignment, as it is answered
abbrev pub found_in : AssignRefusal → Reason
found_in (assigned.Wrong x) = Found (Wrong x)
found_in (assigned.TwoWriters span number) = Found (TwoWriters span number)

-- the first refusal of an assignment, or none
abbrev pub RefusesSides : Building → List Bool → Names → LeftSide → Names → Expr → Option Reason → Type 0
RefusesSides b inputs lefts left rights right reason = (x : Option AssignRefusal) × IsRefusal b inputs lefts left rights right x × (reason ≡ option_map found_in x)

abbrev pub wrong_value : Fault → Reason
wrong_value x = Found (Wrong x)

-- the first refusal of a process, or none, by the signals that have a writer already
abbrev pub RefusesProcess : Building → List Bool → Names → Tree → Option Reason → Type 0
RefusesProcess b inputs names p reason = (written : List Bool) × (x : Option Refusal) × TellsWriters b inputs written × IsFirst (process_refusals names written p) x × (reason ≡ option_map Found x)

-- The first refusal of an item in this builder, or none. An item that lists a refusal is refused for it.
abbrev pub Refuses : Building → List Bool → List Place → FlatItem → Option Reason → Type 0
Refuses b inputs places (f.Declares k) reason = reason ≡ None
Refuses b inputs places (f.Assigns k left right) reason = RefusesSides b inputs (names_at places k) left (names_at places k) right reason
Refuses b inputs places (f.Drives k net value) reason = RefusesSides b inputs (names_at places k) (l.Name net) (names_at places k) value reason
Refuses b inputs places (f.Enters port k value) reason = reason ≡ option_map wrong_value (least (right_refusals (names_at places k) value (widths_in b port)))
Refuses b inputs places (f.Open port) reason = reason ≡ None
Refuses b inputs places (f.Leaves k value inside port) reason = (left : LeftSide) × (same_form left ≡ value) × RefusesSides b inputs (names_at places k) left (names_at places inside) (e.Name port) reason
Refuses b inputs places (f.Runs k p) reason = RefusesProcess b inputs (names_at places k) p reason
Refuses b inputs places (f.Starts number k value) reason = reason ≡ option_map Start (start_error (names_at places k) value (widths_in b number))
Refuses b inputs places (f.Refuses error) reason = reason ≡ Some (Listed error)

-- What is built.

-- what holds of a builder from item to item: the names of each scope are signals of it, of from 1 to 128 bits
pub record Stands (places : List Place) (b : Building) : Type 0 where
  pub ready : IsReady b
  pub signals : (k : ℕ) → HasSignals (names_at places k) b
  pub some : (k : ℕ) → k < length b.signals → 1 ≤ length (signal b k)
  pub narrow : (k : ℕ) → length (signal b k) ≤ 128

-- just these cells were added
pub record AddsCells (old new : Building) (made : List Made) : Type 0 where
  pub more : List Cell
  pub cells : new.cells ≡ old.cells ++ more
  pub are : map made_of more ≡ made
  pub registers : new.registers ≡ old.registers

-- The parts that an item adds, in their order: cells of a right side; or the cells of statements, with the joints or registers of
-- their variables.
abbrev pub HasParts : List Place → FlatItem → Building → Building → Type 0
HasParts places (f.Runs k p) old new = BuildsBy (sensitivity p) (process_steps (names_at places k) p) old new
HasParts places item old new = AddsCells old new (item_cells (widths_in old) places item)

-- an input of an instance that gets its value has no writer before
abbrev pub IsNewPort : Building → List Bool → FlatItem → Type 0
IsNewPort b inputs (f.Enters port k value) = ¬ HasWriter b inputs port
IsNewPort b inputs (f.Open port) = ¬ HasWriter b inputs port
IsNewPort b inputs item = Unit {0}

-- An item is built, in which nothing is refused: what it means is added, or where it says nothing of a cycle, nothing. The new
-- builder is the one in which the item was laid.
pub record Builds (inputs : List Bool) (places : List Place) (item : FlatItem) (old new : Building) : Type 0 where
  pub accepted : Refuses old inputs places item None
  pub meaning : Option Meaning
  pub means : Means (widths_in old) places item meaning
  pub adds : AddsMeaning old new meaning
  pub parts : HasParts places item old new
  pub port : IsNewPort old inputs item
  pub ready : IsReady new
  pub declared : new.declared ≡ old.declared
  pub starts : new.starts ≡ old.starts
  pub laid : new ≡ lay_item places item old

-- There is no room for so many cells: there would be too many, or there is no memory.
abbrev pub IsShort : ℕ → BuildError → Type 0
IsShort cells (TooMany Cells) = max_cells < cells
IsShort cells Memory = Unit {0}
IsShort cells other = ⊥

-- An item is not built: it is refused, or there is no room for its cells.
abbrev pub Fails : List Bool → List Place → FlatItem → Building → BuildError → Type 0
Fails inputs places item old (Refused reason) = Refuses old inputs places item (Some reason)
Fails inputs places item old (TooMany kind) = Refuses old inputs places item None × IsShort (length old.cells + cell_count (widths_in old) places item) (TooMany kind)
Fails inputs places item old Memory = Unit {0}

-- For proofs alone.

-- An assignment is built whose sides are read in the names of two scopes, and nothing is refused in it.
abbrev pub BuildsSides : List Bool → Names → LeftSide → Names → Expr → Building → Building → Type 0
BuildsSides inputs lefts left rights right old new = RefusesSides old inputs lefts left rights right None × IsBuilt old new (assignment lefts left rights right) (right_cells rights right (left_width lefts left)) × (new ≡ lay_assignment lefts left rights right old)

abbrev pub FailsSides : List Bool → Names → LeftSide → Names → Expr → Building → BuildError → Type 0
FailsSides inputs lefts left rights right old (Refused reason) = RefusesSides old inputs lefts left rights right (Some reason)
FailsSides inputs lefts left rights right old (TooMany kind) = RefusesSides old inputs lefts left rights right None × IsShort (length old.cells + length (right_cells rights right (left_width lefts left))) (TooMany kind)
FailsSides inputs lefts left rights right old Memory = Unit {0}

-- why an assignment is not built, as it is answered
abbrev pub assign_error : AssignError → BuildError
assign_error (assign.Refused refusal) = Refused (found_in refusal)
assign_error (assign.TooMany kind) = TooMany kind
assign_error assign.Memory = Memory

-- the connection of an input is not built
abbrev pub FailsInput : Names → Expr → ℕ → ℕ → BuildError → Type 0
FailsInput names value width cells (Refused reason) = Some reason ≡ option_map wrong_value (least (right_refusals names value width))
FailsInput names value width cells (TooMany kind) = (None ≡ option_map wrong_value (least (right_refusals names value width))) × IsShort (cells + length (right_cells names value width)) (TooMany kind)
FailsInput names value width cells Memory = Unit {0}

-- the left side of the same form as an expression, where there is one
abbrev pub IsLeft : Expr → Option LeftSide → Type 0
IsLeft x None = Unit {0}
IsLeft x (Some left) = same_form left ≡ x

abbrev pub AreLefts : List Expr → Option (List LeftSide) → Type 0
AreLefts xs None = Unit {0}
AreLefts xs (Some lefts) = map same_form lefts ≡ xs

-- what is wrong in the value of a connection, as it is answered
abbrev pub wrong : Cause → Span → BuildError
wrong c span = Refused (wrong_value (fault c span))

abbrev pub unsupported : Span → Feature → BuildError
unsupported span feature.RangeForm = wrong cause.RangeForm span
unsupported span feature.SystemFunction = wrong cause.SystemFunction span
unsupported span feature.DivideOrPower = wrong cause.DivideOrPower span
unsupported span feature.IndexedBase = wrong cause.IndexedBase span
unsupported span other = Memory

abbrev pub input_error : ElabError → BuildError
input_error (elab.Unknown span) = wrong cause.Unknown span
input_error (elab.NotConstant span) = wrong cause.NotConstant span
input_error (elab.Drawn span) = wrong cause.Drawn span
input_error (elab.DivideByZero span) = wrong cause.DivideByZero span
input_error (elab.TooWide span) = wrong cause.TooWide span
input_error (elab.Unsupported span x) = unsupported span x
input_error (elab.TooMany kind) = TooMany kind
input_error elab.Memory = Memory

-- A process is built, or it is not.

-- what is built of a process in a scope of these names
pub record BuildsProcess (inputs : List Bool) (names : Names) (p : Tree) (old new : Building) : Type 0 where
  pub accepted : RefusesProcess old inputs names p None
  pub adds : AddsProcess names p old new
  pub ready : IsReady new

abbrev pub FailsProcess : List Bool → Names → Tree → Building → BuildError → Type 0
FailsProcess inputs names p old (Refused reason) = RefusesProcess old inputs names p (Some reason)
FailsProcess inputs names p old (TooMany kind) = RefusesProcess old inputs names p None × IsShort (length old.cells + process_cells names p) (TooMany kind)
FailsProcess inputs names p old Memory = Unit {0}

abbrev pub process_error : ElabError → BuildError
process_error (elab.TooMany kind) = TooMany kind
process_error other = Memory
