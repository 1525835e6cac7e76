-- The gates of two netlists over the same free bits, and the clauses of a step in which they differ.
use Rattle.std.specs.Prelude.{List, [], ◌++◌, ℤ}
use Rattle.netlist_core.specs.declared.bit.Bit.{Bit}
use Rattle.netlist_core.specs.declared.raw.RawNetlist.{RawNetlist}
use Rattle.netlist_core.specs.Runs.{bits_at, d_bits}
use Rattle.netlist_core.specs.Checked.{Plan, free_bits}
use Rattle.step_trials.specs.Inputs.{joined}
use Rattle.gate_list.specs.Gates.{Gates}
use Rattle.gate_words.specs.declared.operation.Operation.TheVariants.{Xor}
use Rattle.gate_words.specs.Rows.{MadeRow, row_of}
use Rattle.gate_clauses.specs.Encoding.{miter_clauses}
use Rattle.netlist_gates.specs.NetLits.{Lits, bits_lits}
use Rattle.netlist_gates.specs.Made.{netlist_made}

-- the gates of both, and the literals of the nets of each
pub record Copies : Type 0 where
  pub gates : Gates
  pub first : Lits
  pub second : Lits

-- the original's gates, and then the mutant's
abbrev pub copies : Plan → Plan → Copies
copies a b =
    let one = netlist_made (record { free = free_bits a.raw; made = [] }) a in
    let two = netlist_made one.gates b in
    record { gates = two.gates; first = one.lits; second = two.lits }

-- the bits that a step shows: those of the outputs, and those that the registers take
abbrev pub step_bits : RawNetlist → List Bit
step_bits netlist = joined (bits_at netlist.outputs) ++ joined (d_bits netlist.registers)

-- one exclusive or for each of them
abbrev pub apart_of : Copies → RawNetlist → RawNetlist → MadeRow
apart_of made a b = row_of Xor made.gates (bits_lits made.first (step_bits a)) (bits_lits made.second (step_bits b))

abbrev pub pair_row : Plan → Plan → MadeRow
pair_row a b = apart_of (copies a b) a.raw b.raw

-- the clauses of all gates, and that one of the bits differs
abbrev pub pair_clauses : Plan → Plan → List (List ℤ)
pair_clauses a b = let row = pair_row a b in miter_clauses row.gates row.bits
