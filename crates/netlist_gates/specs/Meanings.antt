-- What the literals of nets are worth.
use Rattle.std.specs.Prelude.{ℕ, ◌+◌, List, [], ◌∷◌, length}
use Rattle.clause_store.specs.Clauses.{Values}
use Rattle.netlist_core.specs.declared.bit.Bit.{Bit}
use Rattle.netlist_core.specs.declared.raw.RawNetlist.{RawNetlist}
use Rattle.netlist_core.specs.Numbers.{number}
use Rattle.netlist_core.specs.Runs.{bits_at, q_bits, plain, Holds}
use Rattle.gate_list.specs.Gates.{Gates, Hold}
use Rattle.gate_words.specs.Bits.{lit_values}
use Rattle.netlist_gates.specs.NetLits.{Lits, variables, nets_of}
use Rattle.netlist_gates.specs.Made.{first_input, first_register}

-- the numbers at ports whose bits are the variables from this one on
abbrev pub free_numbers : Values → ℕ → List (List Bit) → List ℕ
free_numbers values first [] = []
free_numbers values first (bits ∷ more) = number (lit_values values (variables first (length bits))) ∷ free_numbers values (first + length bits) more

-- the inputs, and the registers' values
abbrev pub input_numbers : RawNetlist → Values → List ℕ
input_numbers netlist values = free_numbers values first_input (bits_at netlist.inputs)

abbrev pub register_numbers : RawNetlist → Values → List ℕ
register_numbers netlist values = free_numbers values (first_register netlist) (q_bits netlist.registers)

-- Wherever the gates hold, the nets have the values of the netlist's cycle with the inputs and registers that the free bits are.
abbrev pub Solves : RawNetlist → Gates → Lits → Type 0
Solves netlist gates lits = (values : Values) → Hold gates values → Holds (plain (nets_of values lits)) (nets_of values lits) netlist (input_numbers netlist values) (register_numbers netlist values)
