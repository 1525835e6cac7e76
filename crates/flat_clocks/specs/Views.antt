-- What the code's tables stand for.
use Rattle.std.specs.Prelude.{ℕ, not, ◌&&◌, Option, None, Some, is_some}
use Rattle.std.specs.BTreeMap.{BTreeMap, get}
use Rattle.std.specs.Ordering.{nat_cmp}
use Rattle.vlog_meaning.specs.Scopes.{Names, names_of}
use Rattle.flat_clocks.specs.declared.clocks.Clocks.{Clocks as Kept}
use Rattle.flat_clocks.specs.declared.names.ClockNames.{ClockNames as Looked}
use Rattle.flat_clocks.specs.Clocks.{Sources, Clocks, clock_names}
use Rattle.flat_clocks.specs.Reads.{ClockNames}

-- a signal that is not in the table is its own source
abbrev pub source_or : ℕ → Option ℕ → ℕ
source_or k None = k
source_or k (Some source) = source

abbrev pub sources_in : BTreeMap ℕ ℕ → Sources
sources_in m k = source_or k (get nat_cmp m k)

abbrev pub clocks_in : Kept → Clocks
clocks_in c = record { source = sources_in c.sources; clock = c.clock }

-- For proofs alone.

-- these names, but for those that are declared here
abbrev pub but : Names → ClockNames → ClockNames
but variables is name = not (is_some (variables name)) && is name

abbrev pub names_in : Looked → ClockNames
names_in n = but (names_of n.variables.now) (clock_names (clocks_in n.clocks.now) (names_of n.scope.now))
