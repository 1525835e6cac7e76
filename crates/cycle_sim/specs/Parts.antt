-- Bits of a port as parts of what drives them. Drivers are lists of bits, counted from 0.
use Rattle.std.specs.Prelude.{◌≡◌, ℕ, ◌+◌, ◌-◌, ◌*◌, ◌/◌, ◌%◌, ◌^◌, ◌≤◌, ◌<◌, Bool, List, [], ◌∷◌, ◌++◌, length, take, drop, replicate, slice_index, slice_index_or, if◌then◌else◌}
use Rattle.netlist_core.specs.declared.bit.Bit.{Bit}
use Rattle.netlist_core.specs.declared.bit.Bit.TheVariants.{Fixed}
use Rattle.netlist_core.specs.Numbers.{number, low_bits}
use Rattle.netlist_core.specs.Runs.{Nets, values}
use Rattle.cycle_sim.specs.declared.parts.Source.{Source}
use Rattle.cycle_sim.specs.declared.parts.Source.TheVariants.{Constant, Driver}
use Rattle.cycle_sim.specs.declared.parts.Part.{Part}
use Rattle.cycle_sim.specs.declared.parts.Reading.{Reading}
use Rattle.cycle_sim.specs.declared.parts.Reading.TheVariants.{Number, Whole, Single, Several}
use Rattle.cycle_sim.specs.declared.parts.Wires.{Wires}

-- For proofs alone.

-- so many bits from a source on
abbrev pub source_bits : List (List Bit) → Source → ℕ → List Bit
source_bits drivers (Constant b) w = replicate w (Fixed b)
source_bits drivers (Driver place) w = take w (drop place.bit (slice_index_or drivers place.driver []))

abbrev pub part_bits : List (List Bit) → Part → List Bit
part_bits drivers part = source_bits drivers part.first part.width

-- the bits of parts, side by side
abbrev pub all_bits : List (List Bit) → List Part → List Bit
all_bits drivers [] = []
all_bits drivers (part ∷ more) = part_bits drivers part ++ all_bits drivers more

-- each part has a bit, and all its bits are there
abbrev pub AllWhole : List (List Bit) → List Part → Type 0
AllWhole drivers [] = Unit {0}
AllWhole drivers (part ∷ more) = (1 ≤ part.width) × (length (part_bits drivers part) ≡ part.width) × AllWhole drivers more

-- how the number of a port of these bits and parts is read
abbrev pub IsReading : List (List Bit) → Reading → List Bit → List Part → Type 0
IsReading drivers (Number n) port parts = (nets : Nets) → number (values nets port) ≡ n
IsReading drivers (Whole d) port parts = slice_index_or drivers d [] ≡ port
IsReading drivers (Single part) port parts = parts ≡ part ∷ []
IsReading drivers Several port parts = Unit {0}

-- the wires have the bits
pub record IsWired (drivers : List (List Bit)) (wires : Wires) (port : List Bit) : Type 0 where
  pub width : wires.width ≡ length port
  pub bits : all_bits drivers wires.parts ≡ port
  pub whole : AllWhole drivers wires.parts
  pub reading : IsReading drivers wires.reading port wires.parts

abbrev pub AllWired : List (List Bit) → List Wires → List (List Bit) → Type 0
AllWired drivers [] [] = Unit {0}
AllWired drivers (wires ∷ more) (bits ∷ ports) = IsWired drivers wires bits × AllWired drivers more ports
AllWired drivers wires ports = ⊥

-- What is read from a table with a number for each driver.

abbrev pub source_number : List ℕ → Source → ℕ → ℕ
source_number table (Constant b) w = if b then 2 ^ w - 1 else 0
source_number table (Driver place) w = slice_index table place.driver / 2 ^ place.bit % 2 ^ w

abbrev pub part_number : List ℕ → Part → ℕ
part_number table part = source_number table part.first part.width

abbrev pub parts_number : List ℕ → List Part → ℕ
parts_number table [] = 0
parts_number table (part ∷ more) = part_number table part + 2 ^ part.width * parts_number table more

-- the widths together
abbrev pub total : List Part → ℕ
total [] = 0
total (part ∷ more) = part.width + total more

-- the source stands in a table of so many numbers
abbrev pub IsInside : ℕ → Source → Type 0
IsInside count (Constant b) = Unit {0}
IsInside count (Driver place) = (place.driver < count) × (place.bit < 128)

abbrev pub AllInside : ℕ → List Part → Type 0
AllInside count [] = Unit {0}
AllInside count (part ∷ more) = (1 ≤ part.width) × IsInside count part.first × AllInside count more

-- what is read there is the number at the parts
abbrev pub IsRead : List ℕ → Reading → ℕ → List Part → Type 0
IsRead table (Number n) w parts = (parts_number table parts ≡ n) × (n < 2 ^ w)
IsRead table (Whole d) w parts = (d < length table) × (parts_number table parts ≡ slice_index table d) × (slice_index table d < 2 ^ w)
IsRead table (Single part) w parts = parts ≡ part ∷ []
IsRead table Several w parts = Unit {0}

-- wires of 1 to 128 bits that can be read from a table
pub record IsReadable (table : List ℕ) (wires : Wires) : Type 0 where
  pub some : 1 ≤ wires.width
  pub narrow : wires.width ≤ 128
  pub total : total wires.parts ≡ wires.width
  pub inside : AllInside (length table) wires.parts
  pub read : IsRead table wires.reading wires.width wires.parts

abbrev pub AllReadable : List ℕ → List Wires → Type 0
AllReadable table [] = Unit {0}
AllReadable table (wires ∷ more) = IsReadable table wires × AllReadable table more

-- the bits that are read at wires
abbrev pub wires_bits : List ℕ → Wires → List Bool
wires_bits table wires = low_bits wires.width (parts_number table wires.parts)
