-- The free bits of a netlist: those of its inputs and of its registers, and how many there may be.
use Rattle.std.specs.Prelude.{ℕ, ◌/◌, ◌%◌, ◌^◌, List, [], ◌∷◌, ◌++◌, length}
use Rattle.netlist_core.specs.declared.bit.Bit.{Bit}
use Rattle.netlist_core.specs.declared.raw.RawNetlist.{RawNetlist}
use Rattle.netlist_core.specs.Runs.{bits_at, q_bits}

-- how many free bits there may be (docs/PROFILE.md)
abbrev pub max_free_bits : ℕ
max_free_bits = 8

-- the bits of all ports, one port after the other
abbrev pub joined : List (List Bit) → List Bit
joined [] = []
joined (bits ∷ more) = bits ++ joined more

-- the bits of all inputs, and then of the Q's of all registers
abbrev pub free_list : RawNetlist → List Bit
free_list netlist = joined (bits_at netlist.inputs) ++ joined (q_bits netlist.registers)

-- For proofs alone.

-- a number over the bits of all ports, divided into the numbers of the ports
abbrev pub parts : List (List Bit) → ℕ → List ℕ
parts [] n = []
parts (bits ∷ more) n = n % 2 ^ length bits ∷ parts more (n / 2 ^ length bits)

-- a number over the free bits: the numbers of the inputs, and those that the registers hold
abbrev pub inputs_of : RawNetlist → ℕ → List ℕ
inputs_of netlist n = parts (bits_at netlist.inputs) n

abbrev pub state_of : RawNetlist → ℕ → List ℕ
state_of netlist n = parts (q_bits netlist.registers) (n / 2 ^ length (joined (bits_at netlist.inputs)))
