-- Start values of a flattened design (IEEE 1364-2005, 6.2.1 and 9.9.1): what the items leave that run once.
use Rattle.std.specs.Prelude.{ℕ, List, [], ◌∷◌, Option, nat_eq, option_map, if◌then◌else◌}
use Rattle.vlog_syntax.specs.declared.expr.Expr.{Expr}
use Rattle.vlog_meaning.specs.declared.fault.ConstError.{ConstError}
use Rattle.vlog_meaning.specs.Answers.{const_error, least}
use Rattle.vlog_meaning.specs.Scopes.{Names, Store, nothing}
use Rattle.vlog_meaning.specs.Senses.{sense, assigned, constant_faults_at}
use Rattle.process_cells.specs.Items.{Widths}
use Rattle.process_cells.specs.Starts.{assigned_value, process_starts}
use Rattle.flat_instances.specs.Places.{Place}
use Rattle.flat_instances.specs.declared.item.FlatItem.{FlatItem}
use Rattle.flat_instances.specs.declared.item.FlatItem.TheVariants as f
pub use Rattle.flat_clocks.specs.Clocks.{names_at, names_in}

-- the same values, but for one signal
abbrev pub with_value : ℕ → ℕ → Store → Store
with_value k v store = λ n. if nat_eq n k then v else store n

-- why a value that is assigned to so many bits is no constant
abbrev pub start_error : Names → Expr → ℕ → Option ConstError
start_error names x width = option_map const_error (least (constant_faults_at (sense names x) (assigned (sense names x) width)))

-- what an item leaves before the first cycle
abbrev pub started : Widths → List Place → FlatItem → Store → Store
started width places (f.Starts number k value) store = with_value number (assigned_value (names_at places k) value (width number)) store
started width places (f.Runs k p) store = process_starts width (names_at places k) p store
started width places other store = store

-- Each variable is 0 at first; the last value of several counts.
abbrev pub starts_from : Widths → List Place → List FlatItem → Store → Store
starts_from width places [] store = store
starts_from width places (item ∷ more) store = starts_from width places more (started width places item store)

abbrev pub start_values : Widths → List Place → List FlatItem → Store
start_values width places items = starts_from width places items nothing
