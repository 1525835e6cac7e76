-- The laws of netlists that are built item by item.
use Rattle.std.specs.Prelude.{◌≡◌, ℕ, ◌≤◌, List, [], ◌∷◌, ◌++◌, Option, map}
use Rattle.mcy_base.specs.declared.span.Span.{Span}
use Rattle.netlist_core.specs.declared.bit.Bit.{Bit}
use Rattle.netlist_core.specs.declared.port.Port.{Port}
use Rattle.netlist_core.specs.declared.port.Register.{Register}
use Rattle.netlist_core.specs.declared.raw.RawNetlist.{RawNetlist}
use Rattle.netlist_core.specs.Runs.{Nets, plain, IsRun, outputs_by, port_numbers, q_bits}
use Rattle.vlog_meaning.specs.Scopes.{Store}
use Rattle.net_builder.specs.declared.builder.Joint.{Joint}
use Rattle.net_builder.specs.Building.{Building, Grows, AllBelow, PortsBelow, empty, signal, with_declared, with_start}
use Rattle.net_builder.specs.Finished.{Finished}
use Rattle.flat_runs.specs.Meanings.{Place, Meaning, Assign, Combinational, Clocked, all_stored}
use Rattle.flat_runs.specs.Designs.{Design, IsSourceRun, source_outputs, source_states}
use Rattle.flat_runs.specs.Adding.{HasOwnNets, Extends, Means, AddsItem, AddsItems}
use Rattle.flat_runs.specs.Parts.{with_joints, with_registers, AreRegistersBelow, StandsBelow, AreJoints, AllMean, AllJoin, IsSettled, AreStored}
use Rattle.flat_runs.specs.Writing.{HasOneWriter, IsNew}
use Rattle.flat_runs.specs.Finishing.{Begins, Finishes, ArePut, IsWhole}

-- A netlist has the runs of its source.

-- the registers at the start of each cycle
abbrev pub netlist_states : RawNetlist → List Nets → List (List ℕ)
netlist_states netlist cycles = map (λ nets. port_numbers nets (q_bits netlist.registers)) cycles

-- a run of the source and one of the netlist, on the same inputs, that show the same outputs and registers
pub record RunsAlike (design : Design) (netlist : RawNetlist) (state : List ℕ) (inputs : List (List ℕ)) (stores : List Store) (cycles : List Nets) : Type 0 where
  pub source_run : IsSourceRun design state inputs stores
  pub netlist_run : IsRun netlist state inputs cycles
  pub outputs : source_outputs design stores ≡ outputs_by plain netlist cycles
  pub registers : source_states design stores ≡ netlist_states netlist cycles

-- Each run of the netlist is one of the source, and the other way round; and registers begin with their start values.
pub record SameRuns (design : Design) (netlist : RawNetlist) : Type 0 where
  pub of_netlist : (state : List ℕ) (inputs : List (List ℕ)) (cycles : List Nets) → IsRun netlist state inputs cycles → (stores : List Store) × RunsAlike design netlist state inputs stores cycles
  pub of_source : (state : List ℕ) (inputs : List (List ℕ)) (stores : List Store) → IsSourceRun design state inputs stores → (cycles : List Nets) × RunsAlike design netlist state inputs stores cycles
  pub starts : map (λ r. r.start.bits) netlist.registers ≡ map design.start design.registers

-- A netlist that is built item by item from a design and finished has the design's runs.
abbrev pub BuiltRuns : Type 0
BuiltRuns = (first last : Building) (design : Design) (netlist : RawNetlist) → Begins first design → AddsItems design.items first last → Finishes last design netlist → SameRuns design netlist

-- What is made of a builder that is ready, with its registers in the design's order, is a finished netlist of the design.
abbrev pub ReadyFinishes : Type 0
ReadyFinishes = (b : Building) (design : Design) (ins outs : List Port) (netlist : RawNetlist) (registers : List Register) → IsWhole b design ins outs → Finished b ins outs netlist
    → ArePut b design netlist.registers design.registers registers → Finishes b design (record netlist { registers = registers })

-- How a kind of item is added.

-- a continuous assignment or a connection: the value's cells, then the joints of the left side
abbrev pub AssignsAdd : Type 0
AssignsAdd = (old mid : Building) (left : List (Option Place)) (value : Store → ℕ) (bits : List Bit) (joints : List Joint) → HasOwnNets old
    → Extends old mid → Means old mid bits value → AreJoints old left bits joints → AddsItem old (with_joints mid joints) (Assign left value)

-- a combinational process: its cells, then the joints of its variables
abbrev pub CombinationalAdd : Type 0
CombinationalAdd = (old mid : Building) (variables : List ℕ) (effect : Store → Store) (bits : List (List Bit)) (joints : List Joint) → HasOwnNets old → IsSettled old variables effect
    → Extends old mid → AllMean old mid variables bits effect → AllJoin old variables bits joints → AddsItem old (with_joints mid joints) (Combinational variables effect)

-- a clocked process: its cells, then a register for each variable
abbrev pub ClockedAdd : Type 0
ClockedAdd = (old mid : Building) (variables : List ℕ) (effect : Store → Store) (bits : List (List Bit)) (registers : List Register) → HasOwnNets old
    → Extends old mid → AllMean old mid variables bits effect → AreStored old variables bits registers → AddsItem old (with_registers mid registers) (Clocked variables effect)

-- items that were added, and one more
abbrev pub ItemFollows : Type 0
ItemFollows = (items : List Meaning) (m : Meaning) (first mid last : Building) → AddsItems items first mid → AddsItem mid last m → AddsItems (items ++ m ∷ []) first last

-- What the builder's calls keep.

-- cells that are added one after the other extend each run
abbrev pub CellsExtend : Type 0
CellsExtend = (old new : Building) → StandsBelow old → Grows old new → Extends old new × StandsBelow new

-- joints of a left side stand below where the bits do
abbrev pub JointsStandBelow : Type 0
JointsStandBelow = (b : Building) (left : List (Option Place)) (bits : List Bit) (joints : List Joint) → HasOwnNets b → StandsBelow b → AllBelow b.nets bits → AreJoints b left bits joints → StandsBelow (with_joints b joints)

-- so do those of the variables of a process
abbrev pub VariablesStandBelow : Type 0
VariablesStandBelow = (b : Building) (variables : List ℕ) (bits : List (List Bit)) (joints : List Joint) → HasOwnNets b → StandsBelow b → PortsBelow b.nets bits → AllJoin b variables bits joints → StandsBelow (with_joints b joints)

-- so do registers whose D is below
abbrev pub RegistersStandBelow : Type 0
RegistersStandBelow = (b : Building) (registers : List Register) → StandsBelow b → AreRegistersBelow b.nets registers → StandsBelow (with_registers b registers)

-- signals that are declared, and start values
abbrev pub DeclaredStandBelow : Type 0
DeclaredStandBelow = (b : Building) (name : List ℕ) (span : Span) (width : ℕ) → StandsBelow b → StandsBelow (with_declared b name span width)

abbrev pub StartsStandBelow : Type 0
StartsStandBelow = (b : Building) (k start : ℕ) → StandsBelow b → StandsBelow (with_start k start b)

-- signals that are declared have nets of their own
abbrev pub DeclaredOwnNets : Type 0
DeclaredOwnNets = (b : Building) (name : List ℕ) (span : Span) (width : ℕ) → HasOwnNets b → HasOwnNets (with_declared b name span width)

abbrev pub EmptyBegins : Type 0
EmptyBegins = HasOwnNets empty × StandsBelow empty

-- a builder whose signals are as they were, with more nets, still has own nets
abbrev pub OwnNetsStay : Type 0
OwnNetsStay = (old new : Building) → HasOwnNets old → new.signals ≡ old.signals → old.nets ≤ new.nets → HasOwnNets new

-- One writer for each bit.

abbrev pub NothingIsWritten : Type 0
NothingIsWritten = (b : Building) (inputs : List ℕ) → b.joints ≡ [] → b.registers ≡ [] → HasOneWriter b inputs

-- an item whose bits are not written before
abbrev pub OneWriterStays : Type 0
OneWriterStays = (old new : Building) (inputs : List ℕ) (m : Meaning) → HasOwnNets old → HasOneWriter old inputs → IsNew old inputs m → AddsItem old new m → HasOneWriter new inputs

-- start values
abbrev pub OneWriterStarts : Type 0
OneWriterStarts = (b : Building) (inputs : List ℕ) (k start : ℕ) → HasOneWriter b inputs → HasOneWriter (with_start k start b) inputs

-- the registers of all items are those of their variables
abbrev pub RegistersOfItems : Type 0
RegistersOfItems = (items : List Meaning) (first last : Building) → AddsItems items first last → q_bits last.registers ≡ q_bits first.registers ++ map (signal first) (all_stored items)
