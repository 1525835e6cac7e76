-- Which signals have a writer already (IEEE 1364-2005, 6.1 and 9.2), where a process is built.
use Rattle.std.specs.Prelude.{◌⊎◌, ◌↔◌, ℕ, ◌<◌, Bool, false, IsTrue, List, [], ◌∷◌, length, slice_index_or}
use Rattle.netlist_core.specs.declared.bit.Bit.{Bit}
use Rattle.netlist_core.specs.declared.bit.Bit.TheVariants.{Fixed, Net}
use Rattle.net_builder.specs.Building.{Building, signal}
use Rattle.net_builder.specs.Written.{IsJoined, IsStored}
use Rattle.elab_proc.specs.Refusals.{is_written}

-- the bit is a net that is joined, or one of a register
abbrev pub IsBitWritten : Building → Bit → Type 0
IsBitWritten b (Net n) = IsJoined b n ⊎ IsStored b n
IsBitWritten b (Fixed v) = ⊥

abbrev pub SomeBitWritten : Building → List Bit → Type 0
SomeBitWritten b [] = ⊥
SomeBitWritten b (x ∷ more) = IsBitWritten b x ⊎ SomeBitWritten b more

-- the signal is an input of the top, or a bit of it is written by what was built before
abbrev pub HasWriter : Building → List Bool → ℕ → Type 0
HasWriter b inputs k = IsTrue (slice_index_or inputs k false) ⊎ SomeBitWritten b (signal b k)

-- the list tells of each signal whether it has a writer
abbrev pub TellsWriters : Building → List Bool → List Bool → Type 0
TellsWriters b inputs written = (k : ℕ) → k < length b.signals → IsTrue (is_written written k) ↔ HasWriter b inputs k
