-- What flattened items mean: a tree with the scope in which its names are read stands for an assignment or a process.
use Rattle.std.specs.Prelude.{◌≡◌, ℕ, List, [], ◌∷◌, ◌++◌, option_to_list, Option, None, Some}
use Rattle.vlog_syntax.specs.declared.expr.Expr.{Expr}
use Rattle.vlog_syntax.specs.declared.expr.Expr.TheVariants as e
use Rattle.vlog_syntax.specs.declared.left_side.LeftSide.{LeftSide}
use Rattle.vlog_syntax.specs.declared.left_side.LeftSide.TheVariants as l
use Rattle.vlog_meaning.specs.Scopes.{Names}
use Rattle.elab_proc.specs.Refusals.{same_form}
use Rattle.flat_runs.specs.Meanings.{Meaning, Assign}
use Rattle.flat_runs.specs.Parts.{places_from}
use Rattle.flat_assigns.specs.Assignments.{assignment}
use Rattle.flat_assigns.specs.Values.{right_value}
use Rattle.flat_instances.specs.Places.{Place}
use Rattle.flat_instances.specs.declared.item.FlatItem.{FlatItem}
use Rattle.flat_instances.specs.declared.item.FlatItem.TheVariants as f
use Rattle.process_cells.specs.Items.{Widths, process_meaning}
use Rattle.elab_items.specs.Starts.{names_at}

-- A connection of an input gives the whole port a value (12.3.9.2).
abbrev pub entering : Widths → ℕ → Names → Expr → Meaning
entering width port names value = Assign (places_from port 0 (width port)) (right_value names value (width port))

-- an input without a connection is 0
abbrev pub opening : Widths → ℕ → Meaning
opening width port = Assign (places_from port 0 (width port)) (λ store. 0)

-- The item means this, or nothing that holds of a cycle. What an output is connected to is the left side of the same form.
-- A process has the meaning that its list of events gives it; one that runs once has start values alone.
abbrev pub Means : Widths → List Place → FlatItem → Option Meaning → Type 0
Means width places (f.Declares k) m = m ≡ None
Means width places (f.Assigns k left right) m = m ≡ Some (assignment (names_at places k) left (names_at places k) right)
Means width places (f.Drives k net value) m = m ≡ Some (assignment (names_at places k) (l.Name net) (names_at places k) value)
Means width places (f.Enters port k value) m = m ≡ Some (entering width port (names_at places k) value)
Means width places (f.Open port) m = m ≡ Some (opening width port)
Means width places (f.Leaves k value inside port) m = (left : LeftSide) × (same_form left ≡ value) × (m ≡ Some (assignment (names_at places k) left (names_at places inside) (e.Name port)))
Means width places (f.Runs k p) m = m ≡ process_meaning width (names_at places k) p
Means width places (f.Starts number k value) m = m ≡ None
Means width places (f.Refuses error) m = m ≡ None

-- items and their meanings, in order
abbrev pub AllMean : Widths → List Place → List FlatItem → List Meaning → Type 0
AllMean width places [] ms = ms ≡ []
AllMean width places (item ∷ more) ms = (first : Option Meaning) × (rest : List Meaning) × Means width places item first × AllMean width places more rest × (ms ≡ option_to_list first ++ rest)
