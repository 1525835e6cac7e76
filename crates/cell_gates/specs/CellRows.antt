-- The gates of cells, kind by kind, in the order in which they are made.
use Rattle.std.specs.Prelude.{ℕ, Bool, true, false, List, [], ◌∷◌, length, map, replicate}
use Rattle.netlist_core.specs.declared.cell.CellKind.{CellKind}
use Rattle.netlist_core.specs.declared.cell.CellKind.TheVariants.{Not, Neg, And, Or, Xor, Xnor, Add, Sub, Mul, Lt, Le, Gt, Ge, Eq, Ne, Shl, Shr, Sshr, Rand, Ror, Rxor, Rnand, Rnor, Rxnor, Lnot, Land, Lor, Mux, Pick, Put}
use Rattle.gate_list.specs.declared.literal.GateLit.{GateLit}
use Rattle.gate_list.specs.declared.literal.GateLit.TheVariants.{Fixed}
use Rattle.gate_list.specs.Gates.{Gates}
use Rattle.gate_list.specs.Folding.{Made, negated, negated_if}
use Rattle.gate_words.specs.declared.operation.Operation.{Operation}
use Rattle.gate_words.specs.declared.operation.Operation.TheVariants as op
use Rattle.gate_words.specs.declared.shifts.Way.TheVariants.{Up, Down}
use Rattle.gate_words.specs.Rows.{MadeRow, row_of, chain_of, fitted_to}
use Rattle.gate_words.specs.Sums.{sum_of, difference_of, less_of, equal_of}
use Rattle.gate_words.specs.Shifts.{shift_of}
use Rattle.gate_words.specs.Products.{product_of}

-- a row without a gate
abbrev pub no_gates : Gates → List GateLit → MadeRow
no_gates gates bits = record { gates = gates; bits = bits }

-- the row of one bit, negated where that is wanted
abbrev pub lit_row : Bool → Made → MadeRow
lit_row negate made = record { gates = made.gates; bits = negated_if negate made.lit ∷ [] }

abbrev pub negated_bits : MadeRow → MadeRow
negated_bits made = record { gates = made.gates; bits = map negated made.bits }

-- a chain from bit 0
abbrev pub reduced : Operation → Bool → Bool → Gates → List GateLit → MadeRow
reduced operation start negate gates bits = lit_row negate (chain_of operation gates (Fixed start) bits)

-- whether a bit of the first, and whether one of the second is 1; and the operation on these
abbrev pub logical : Operation → Gates → List GateLit → List GateLit → MadeRow
logical operation gates a b =
    let first = chain_of op.Or gates (Fixed false) a in
    let second = chain_of op.Or first.gates (Fixed false) b in
    row_of operation second.gates (first.lit ∷ []) (second.lit ∷ [])

abbrev pub first_lit : List GateLit → GateLit
first_lit [] = Fixed false
first_lit (b ∷ more) = b

abbrev pub top_lit : List GateLit → GateLit
top_lit [] = Fixed false
top_lit (b ∷ []) = b
top_lit (b ∷ c ∷ more) = top_lit (c ∷ more)

-- the row shifted down, cut to a width or filled with 0
abbrev pub picked : ℕ → Gates → List GateLit → List GateLit → MadeRow
picked width gates a b = let down = shift_of Down (Fixed false) gates a b in record { gates = down.gates; bits = fitted_to width down.bits }

-- A and not (ones shl B), with so many ones at A's width
abbrev pub kept_in : Gates → List GateLit → List GateLit → ℕ → MadeRow
kept_in gates a b ones =
    let mask = shift_of Up (Fixed false) gates (fitted_to (length a) (replicate ones (Fixed true))) b in
    row_of op.And mask.gates a (map negated mask.bits)

-- (A and not (ones shl B)) or (D shl B), with D at A's width
abbrev pub put_in : Gates → List GateLit → List GateLit → List GateLit → MadeRow
put_in gates a b d =
    let kept = kept_in gates a b (length d) in
    let laid = shift_of Up (Fixed false) kept.gates (fitted_to (length a) d) b in
    row_of op.Or laid.gates kept.bits laid.bits

-- The gates of a cell whose Y has w bits, from the rows at the input ports, and the row at Y.
-- With another number of input ports than the kind's there are none.
abbrev pub cell_row : CellKind → Bool → ℕ → Gates → List (List GateLit) → MadeRow
cell_row Not signed w gates (a ∷ []) = no_gates gates (map negated a)
cell_row Neg signed w gates (a ∷ []) = difference_of gates (replicate (length a) (Fixed false)) a
cell_row And signed w gates (a ∷ b ∷ []) = row_of op.And gates a b
cell_row Or signed w gates (a ∷ b ∷ []) = row_of op.Or gates a b
cell_row Xor signed w gates (a ∷ b ∷ []) = row_of op.Xor gates a b
cell_row Xnor signed w gates (a ∷ b ∷ []) = negated_bits (row_of op.Xor gates a b)
cell_row Add signed w gates (a ∷ b ∷ []) = sum_of gates a b (Fixed false)
cell_row Sub signed w gates (a ∷ b ∷ []) = difference_of gates a b
cell_row Mul signed w gates (a ∷ b ∷ []) = product_of gates a b
cell_row Lt signed w gates (a ∷ b ∷ []) = lit_row false (less_of signed gates a b)
cell_row Le signed w gates (a ∷ b ∷ []) = lit_row true (less_of signed gates b a)
cell_row Gt signed w gates (a ∷ b ∷ []) = lit_row false (less_of signed gates b a)
cell_row Ge signed w gates (a ∷ b ∷ []) = lit_row true (less_of signed gates a b)
cell_row Eq signed w gates (a ∷ b ∷ []) = lit_row false (equal_of gates a b)
cell_row Ne signed w gates (a ∷ b ∷ []) = lit_row true (equal_of gates a b)
cell_row Shl signed w gates (a ∷ b ∷ []) = shift_of Up (Fixed false) gates a b
cell_row Shr signed w gates (a ∷ b ∷ []) = shift_of Down (Fixed false) gates a b
cell_row Sshr signed w gates (a ∷ b ∷ []) = shift_of Down (top_lit a) gates a b
cell_row Rand signed w gates (a ∷ []) = reduced op.And true false gates a
cell_row Ror signed w gates (a ∷ []) = reduced op.Or false false gates a
cell_row Rxor signed w gates (a ∷ []) = reduced op.Xor false false gates a
cell_row Rnand signed w gates (a ∷ []) = reduced op.And true true gates a
cell_row Rnor signed w gates (a ∷ []) = reduced op.Or false true gates a
cell_row Rxnor signed w gates (a ∷ []) = reduced op.Xor false true gates a
cell_row Lnot signed w gates (a ∷ []) = reduced op.Or false true gates a
cell_row Land signed w gates (a ∷ b ∷ []) = logical op.And gates a b
cell_row Lor signed w gates (a ∷ b ∷ []) = logical op.Or gates a b
cell_row Mux signed w gates (s ∷ a ∷ b ∷ []) = row_of (op.Mux (first_lit s)) gates a b
cell_row Pick signed w gates (a ∷ b ∷ []) = picked w gates a b
cell_row Put signed w gates (a ∷ b ∷ d ∷ []) = put_in gates a b d
cell_row kind signed w gates inputs = no_gates gates []
