-- Shifts of a row by the number that another row has.
use Rattle.std.specs.Prelude.{ℕ, ◌-◌, ◌*◌, ◌++◌, false, List, [], ◌∷◌, length, take, drop, replicate, nat_lt, if◌then◌else◌}
use Rattle.gate_list.specs.declared.literal.GateLit.{GateLit}
use Rattle.gate_list.specs.declared.literal.GateLit.TheVariants.{Fixed}
use Rattle.gate_list.specs.Gates.{Gates}
use Rattle.gate_words.specs.declared.operation.Operation.TheVariants.{Or, Mux}
use Rattle.gate_words.specs.declared.shifts.Way.{Way}
use Rattle.gate_words.specs.declared.shifts.Way.TheVariants.{Up, Down}
use Rattle.gate_words.specs.Rows.{MadeRow, row_of, chain_of}

-- the row moved by so many places, where what gets free is filled
abbrev pub moved : {X : Type 0} → Way → ℕ → X → List X → List X
moved Up n fill bits = take (length bits) (replicate n fill ++ bits)
moved Down n fill bits = drop n bits ++ replicate (length bits - length (drop n bits)) fill

-- The higher bits are joined by or from the lowest, and one row of mux fills where one of them is 1.
abbrev pub past_end : Gates → GateLit → List GateLit → List GateLit → MadeRow
past_end gates fill bits higher = let past = chain_of Or gates (Fixed false) higher in row_of (Mux past.lit) past.gates bits (replicate (length bits) fill)

-- One row of mux for each bit whose weight is below the width, from bit 0 on, and then the higher bits.
abbrev pub shift_from : Way → GateLit → ℕ → Gates → List GateLit → List GateLit → MadeRow
shift_from way fill weight gates bits [] = past_end gates fill bits []
shift_from way fill weight gates bits (s ∷ more) =
    if nat_lt weight (length bits)
    then (let next = row_of (Mux s) gates bits (moved way weight fill bits) in shift_from way fill (2 * weight) next.gates next.bits more)
    else past_end gates fill bits (s ∷ more)

abbrev pub shift_of : Way → GateLit → Gates → List GateLit → List GateLit → MadeRow
shift_of way fill gates bits count = shift_from way fill 1 gates bits count
