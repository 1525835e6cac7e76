-- Laws about pairs of netlists.
use Rattle.std.specs.Prelude.{◌≡◌, ◌≤◌, List, ℕ}
use Rattle.netlist_core.specs.declared.raw.RawNetlist.{RawNetlist}
use Rattle.netlist_core.specs.Checked.{Plan, IsSound, free_bits}
use Rattle.mutation_sites.specs.declared.mode.Mode.{Mode}
use Rattle.mutation_sites.specs.Mutants.{HasOneMore, HasSameNames, HasSameShapes}
use Rattle.pair_gates.specs.declared.error.EncodeError.{EncodeError}
use Rattle.pair_gates.specs.declared.error.EncodeError.TheVariants.{Memory}
use Rattle.pair_gates.specs.Matching.{PortsDiffer, RegistersDiffer, AreAlike}
use Rattle.pair_gates.specs.Refusals.{max_free, IsRefused, IsAccepted}
use Rattle.pair_gates.specs.Weights.{design_gates, max_design_gates}

-- a mutant has its netlist's ports and registers
abbrev pub MutantsAreAlike : Type 0
MutantsAreAlike = (netlist mutant : RawNetlist) → HasOneMore netlist mutant → HasSameNames netlist mutant → AreAlike netlist mutant

-- where the ports and registers are the same, none stands alone
abbrev pub AlikeAreNotApart : Type 0
AlikeAreNotApart = (a b : RawNetlist) → AreAlike a b → (name : List ℕ) → (¬ PortsDiffer a b name) × (¬ RegistersDiffer a b name)

-- A mutant of a netlist within the limits of a design is accepted: of the 100,000 gates that a design may count, 1 is for the cell
-- that the mutant has more.
abbrev pub MutantsAreAccepted : Type 0
MutantsAreAccepted = (netlist mutant : Plan) (mode : Mode) → IsSound netlist → IsSound mutant → HasOneMore netlist.raw mutant.raw → HasSameNames netlist.raw mutant.raw → HasSameShapes netlist.raw mutant.raw mode
    → free_bits netlist.raw ≤ max_free → design_gates netlist.raw ≤ max_design_gates → IsAccepted netlist mutant

-- only want of memory is left as a cause for a pair that is accepted
abbrev pub AcceptedWantMemory : Type 0
AcceptedWantMemory = (a b : Plan) → IsAccepted a b → (error : EncodeError) → IsRefused a b error → error ≡ Memory
