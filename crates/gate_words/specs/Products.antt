-- Products of rows of one width.
use Rattle.std.specs.Prelude.{ℕ, suc, false, List, [], ◌∷◌, length, replicate}
use Rattle.gate_list.specs.declared.literal.GateLit.{GateLit}
use Rattle.gate_list.specs.declared.literal.GateLit.TheVariants.{Fixed}
use Rattle.gate_list.specs.Gates.{Gates}
use Rattle.gate_words.specs.declared.operation.Operation.TheVariants.{And}
use Rattle.gate_words.specs.declared.shifts.Way.TheVariants.{Up}
use Rattle.gate_words.specs.Rows.{MadeRow, row_of}
use Rattle.gate_words.specs.Sums.{sum_of}
use Rattle.gate_words.specs.Shifts.{moved}

-- Row i is the first row moved up by i, each bit of it and bit i of the second. It is added to the sum so far.
abbrev pub product_from : List GateLit → ℕ → Gates → List GateLit → List GateLit → MadeRow
product_from xs i gates so_far [] = record { gates = gates; bits = so_far }
product_from xs i gates so_far (b ∷ more) =
    let row = row_of And gates (moved Up i (Fixed false) xs) (replicate (length xs) b) in
    let sum = sum_of row.gates so_far row.bits (Fixed false) in
    product_from xs (suc i) sum.gates sum.bits more

-- The sum of the rows from row 0 on. It begins with zeros, to which row 0 is added without a gate.
abbrev pub product_of : Gates → List GateLit → List GateLit → MadeRow
product_of gates xs ys = product_from xs 0 gates (replicate (length xs) (Fixed false)) ys
