-- The left sides of a flattened design that give nets their values within a cycle, in the order of its items: which bits each one
-- writes, and the place of the name (IEEE 1364-2005, 6.1 and 9.2). A connection of an instance is an assignment too (12.3.9.2): what an
-- output is connected to is its left side, or else the port of an input, where it is declared.
use Rattle.std.specs.Prelude.{ℕ, List, [], ◌∷◌, map, Option, None, Some, slice_get}
use Rattle.std.specs.List.{flat_map}
use Rattle.mcy_base.specs.declared.span.Span.{Span}
use Rattle.vlog_syntax.specs.declared.item.Process.{Process}
use Rattle.vlog_meaning.specs.Scopes.{Names}
use Rattle.process_events.specs.Events.{Sensitivity, Combinational, sensitivity}
use Rattle.process_latches.specs.declared.marks.Write.{Write}
use Rattle.flat_scopes.specs.declared.signal.Signal.{Signal}
use Rattle.flat_assigns.specs.Writers.{Target}
use Rattle.flat_instances.specs.Places.{Place}
use Rattle.flat_instances.specs.declared.item.FlatItem.{FlatItem}
use Rattle.flat_instances.specs.declared.item.FlatItem.TheVariants as f
use Rattle.flat_items.specs.Flattened.{Flat}
use Rattle.elab_finish.specs.declared.left.Left.{Left}
use Rattle.elab_items.specs.Assigned.{item_targets, process_writes}
use Rattle.elab_items.specs.Designs.{widths_of}
use Rattle.elab_items.specs.Starts.{names_at}

-- a bit that a part of a left side writes
abbrev pub bit_left : Target → Left
bit_left t = record { span = t.span; signal = t.place.signal; first = t.place.bit; count = 1 }

-- all bits of a signal, named at this place
abbrev pub whole_left : List Signal → Span → ℕ → Left
whole_left signals span k = record { span = span; signal = k; first = 0; count = widths_of signals k }

-- a port, where it is declared
abbrev pub port_left : List Signal → ℕ → Option Signal → List Left
port_left signals k None = []
port_left signals k (Some s) = whole_left signals s.span k ∷ []

abbrev pub port_lefts : List Signal → ℕ → List Left
port_lefts signals k = port_left signals k (slice_get signals k)

-- The variables of a combinational process, as its statements assign them. Those of a clocked one are registers, at which each loop of
-- nets ends, and an `initial` gives start values alone.
abbrev pub write_left : List Signal → Write → Left
write_left signals w = whole_left signals w.place w.number

abbrev pub lefts_by : List Signal → Sensitivity → List Write → List Left
lefts_by signals Combinational ws = map (write_left signals) ws
lefts_by signals other ws = []

abbrev pub process_lefts : List Signal → Names → Process → List Left
process_lefts signals names p = lefts_by signals (sensitivity p) (process_writes names p)

-- the left sides of an item: those of an assignment bit by bit, part by part from the left
abbrev pub item_lefts : List Signal → List Place → FlatItem → List Left
item_lefts signals places (f.Enters port k value) = port_lefts signals port
item_lefts signals places (f.Open port) = port_lefts signals port
item_lefts signals places (f.Runs k p) = process_lefts signals (names_at places k) p
item_lefts signals places other = map bit_left (item_targets places other)

abbrev pub design_lefts : Flat → List Left
design_lefts flat = flat_map (item_lefts flat.signals flat.places) flat.items
