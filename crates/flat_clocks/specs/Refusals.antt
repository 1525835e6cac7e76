-- What is refused in a flattened item for its use of the clock: a process that another signal clocks, at the name of its clock, and
-- each read of the clock, at the name that is read. The connection of an input of one bit to the clock's name alone passes it on.
use Rattle.std.specs.Prelude.{ℕ, List, [], ◌∷◌, ◌++◌, Option, None, Some, if◌then◌else◌}
use Rattle.vlog_syntax.specs.declared.expr.Expr.{Expr}
use Rattle.vlog_syntax.specs.declared.feature.Feature.TheVariants.{GatedClock}
use Rattle.vlog_syntax.specs.declared.identifier.Identifier.{Identifier}
use Rattle.vlog_syntax.specs.declared.item.Process.{Process}
use Rattle.process_events.specs.Events.{clock_in, sensitivity}
use Rattle.flat_scopes.specs.declared.signal.Signal.{Signal}
use Rattle.flat_instances.specs.declared.item.FlatItem.{FlatItem}
use Rattle.flat_instances.specs.declared.item.FlatItem.TheVariants as f
use Rattle.flat_instances.specs.Places.{Place}
use Rattle.elab_proc.specs.declared.refusal.Refusal.{Refusal}
use Rattle.elab_proc.specs.declared.refusal.Refusal.TheVariants.{Unsupported}
use Rattle.flat_clocks.specs.Clocks.{Clocks, clock_names, names_at, passed_on}
use Rattle.flat_clocks.specs.Reads.{ClockNames, expr_reads, form_reads, left_reads, stmt_reads}

-- the clock of a process, where it is not that of the design
abbrev pub gated : ClockNames → Option Identifier → List Refusal
gated is None = []
gated is (Some n) = if is n.name then [] else Unsupported n.span GatedClock ∷ []

abbrev pub process_reads : ClockNames → Process → List Refusal
process_reads is p = gated is (clock_in (sensitivity p)) ++ stmt_reads p.body is

abbrev pub entering_reads : ClockNames → Expr → (passed : Option ℕ) → List Refusal
entering_reads is value None = expr_reads is value
entering_reads is value (Some number) = []

-- A start value is a constant, in which each signal is refused as such.
abbrev pub clock_refusals : Clocks → List Signal → List Place → FlatItem → List Refusal
clock_refusals c signals places (f.Assigns k left value) = left_reads (clock_names c (names_at places k)) left ++ expr_reads (clock_names c (names_at places k)) value
clock_refusals c signals places (f.Drives k net value) = expr_reads (clock_names c (names_at places k)) value
clock_refusals c signals places (f.Enters port k value) = entering_reads (clock_names c (names_at places k)) value (passed_on signals port (names_at places k) value)
clock_refusals c signals places (f.Leaves k value inside port) = form_reads (clock_names c (names_at places k)) value
clock_refusals c signals places (f.Runs k p) = process_reads (clock_names c (names_at places k)) p
clock_refusals c signals places other = []
