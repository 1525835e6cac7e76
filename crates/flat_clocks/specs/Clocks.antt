-- The clock of a flattened design. An input of an instance that is connected to a name alone has its value from that signal, where
-- both have one bit; the clock is the input of the top from which the first clocked process has its clock.
use Rattle.std.specs.Prelude.{ℕ, Bool, false, ◌&&◌, ◌==◌, nat_eq, List, [], ◌∷◌, Option, None, Some, slice_get, slice_index_or, if◌then◌else◌}
use Rattle.std.specs.Option.{option_map}
use Rattle.vlog_syntax.specs.declared.expr.Expr.{Expr, out-Expr}
use Rattle.vlog_syntax.specs.declared.expr.Expr.TheOpen as e
use Rattle.vlog_syntax.specs.declared.expr.Expr.TheOpen.{Expr-F}
use Rattle.vlog_syntax.specs.declared.identifier.Identifier.{Identifier}
use Rattle.vlog_meaning.specs.declared.scope.Decl.{Decl}
use Rattle.vlog_meaning.specs.declared.scope.Decl.TheVariants.{Signal}
use Rattle.vlog_meaning.specs.Scopes.{Names}
use Rattle.process_events.specs.Events.{clock_in, sensitivity}
use Rattle.flat_scopes.specs.declared.signal.Signal.{Signal as Kept}
use Rattle.flat_instances.specs.declared.item.FlatItem.{FlatItem}
use Rattle.flat_instances.specs.declared.item.FlatItem.TheVariants as f
use Rattle.flat_items.specs.Flattened.{Flat}
use Rattle.flat_instances.specs.Instances.{no_names}
use Rattle.flat_instances.specs.Places.{Place}

-- what names are declared as in the scope of this number
abbrev pub names_in : Option Place → Names
names_in None = no_names
names_in (Some p) = p.names

abbrev pub names_at : List Place → ℕ → Names
names_at places k = names_in (slice_get places k)

-- a signal of one bit
abbrev pub has_one_bit : Option Kept → Bool
has_one_bit None = false
has_one_bit (Some s) = s.bits.width == 1

abbrev pub is_bit : List Kept → ℕ → Bool
is_bit signals k = has_one_bit (slice_get signals k)

-- Sources.

-- the signal from which each signal has its value, by its number
abbrev pub Sources : Type 0
Sources = ℕ → ℕ

-- each is its own
abbrev pub own : Sources
own k = k

-- the signal of one bit that is declared so
abbrev pub bit_of : Option Decl → Option ℕ
bit_of (Some (Signal width low is_signed number)) = if width == 1 then Some number else None
bit_of other = None

-- the signal of one bit that an expression names, where it is a name alone
abbrev pub named_bit : Names → Expr-F Expr → Option ℕ
named_bit names (e.Name n) = bit_of (names n.name)
named_bit names other = None

-- the signal that is passed on to an input of an instance, where there is one
abbrev pub passed_on : List Kept → (port : ℕ) → Names → Expr → Option ℕ
passed_on signals port names value = if is_bit signals port then named_bit names (out-Expr value) else None

abbrev pub with_source : Sources → (port : ℕ) → Option ℕ → Sources
with_source source port None = source
with_source source port (Some number) = λ k. if nat_eq port k then source number else source k

abbrev pub with_item : List Kept → List Place → Sources → FlatItem → Sources
with_item signals places source (f.Enters port k value) = with_source source port (passed_on signals port (names_at places k) value)
with_item signals places source other = source

-- The connections of an instance stand before the items of its module, so that a signal's source is known where it is passed on.
abbrev pub with_items : List Kept → List Place → Sources → List FlatItem → Sources
with_items signals places source [] = source
with_items signals places source (item ∷ more) = with_items signals places (with_item signals places source item) more

abbrev pub sources : Flat → Sources
sources flat = with_items flat.signals flat.places own flat.items

-- The clock.

-- the number of a signal that is declared so
abbrev pub signal_of : Option Decl → Option ℕ
signal_of (Some (Signal width low is_signed number)) = Some number
signal_of other = None

abbrev pub clock_signal : Names → Identifier → Option ℕ
clock_signal names n = signal_of (names n.name)

-- the name of the clock of an item that is a clocked process
abbrev pub clock_name : FlatItem → Option Identifier
clock_name (f.Runs k p) = clock_in (sensitivity p)
clock_name other = None

-- the signal of that name, in the scope of the process
abbrev pub signal_named : List Place → FlatItem → Identifier → Option ℕ
signal_named places (f.Runs k p) n = clock_signal (names_at places k) n
signal_named places other n = None

abbrev pub clock_or : List Place → FlatItem → Option Identifier → (later : Option ℕ) → Option ℕ
clock_or places item None later = later
clock_or places item (Some n) later = signal_named places item n

-- the signal that clocks the first clocked process
abbrev pub first_clock : List Place → List FlatItem → Option ℕ
first_clock places [] = None
first_clock places (item ∷ more) = clock_or places item (clock_name item) (first_clock places more)

-- an input of the top of one bit
abbrev pub as_input : (inputs : List Bool) → List Kept → Option ℕ → Option ℕ
as_input inputs signals None = None
as_input inputs signals (Some k) = if slice_index_or inputs k false && is_bit signals k then Some k else None

-- what is the clock, and from where signals have their values
pub record Clocks : Type 0 where
  pub source : Sources
  pub clock : Option ℕ

-- The clocks of a design, of which `inputs` tells which signals are inputs of the top.
abbrev pub clocks_of : (inputs : List Bool) → Flat → Clocks
clocks_of inputs flat = record { source = sources flat; clock = as_input inputs flat.signals (option_map (sources flat) (first_clock flat.places flat.items)) }

-- Signals that are the clock.

abbrev pub is_source : (clock : Option ℕ) → ℕ → Bool
is_source None k = false
is_source (Some c) k = nat_eq c k

abbrev pub is_clock : Clocks → Option Decl → Bool
is_clock c (Some (Signal width low is_signed number)) = is_source c.clock (c.source number)
is_clock c other = false

-- which names of a scope are the clock
abbrev pub clock_names : Clocks → Names → List ℕ → Bool
clock_names c names name = is_clock c (names name)
