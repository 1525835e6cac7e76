-- Sums, orders and equality of rows of one width. A carry goes from bit 0 to the top.
use Rattle.std.specs.Prelude.{Bool, true, false, List, [], ◌∷◌, map}
use Rattle.gate_list.specs.declared.literal.GateLit.{GateLit}
use Rattle.gate_list.specs.declared.literal.GateLit.TheVariants.{Fixed}
use Rattle.gate_list.specs.Gates.{Gates}
use Rattle.gate_list.specs.Folding.{Made, negated, and_of, or_of, xor_of}
use Rattle.gate_words.specs.declared.operation.Operation.TheVariants.{And, Xor}
use Rattle.gate_words.specs.Rows.{MadeRow, row_of, chain_of}

-- the gates, a bit of a sum over them, and the carry to the next bit
pub record MadeBit : Type 0 where
  pub gates : Gates
  pub sum : GateLit
  pub carry : GateLit

-- (a xor b) xor c, and then the carry: (a and b) or (c and (a xor b))
abbrev pub full_sum : Gates → GateLit → GateLit → GateLit → MadeBit
full_sum gates a b c =
    let apart = xor_of gates a b in
    let sum = xor_of apart.gates apart.lit c in
    let both = and_of sum.gates a b in
    let passed = and_of both.gates c apart.lit in
    let carry = or_of passed.gates both.lit passed.lit in
    record { gates = carry.gates; sum = sum.lit; carry = carry.lit }

-- the sum alone
abbrev pub last_sum : Gates → GateLit → GateLit → GateLit → Made
last_sum gates a b c = let apart = xor_of gates a b in xor_of apart.gates apart.lit c

-- the carry alone
abbrev pub carry_of : Gates → GateLit → GateLit → GateLit → Made
carry_of gates a b c =
    let both = and_of gates a b in
    let apart = xor_of both.gates a b in
    let passed = and_of apart.gates c apart.lit in
    or_of passed.gates both.lit passed.lit

-- The sum with a carry into bit 0. No carry goes out of the last bit.
abbrev pub sum_of : Gates → List GateLit → List GateLit → GateLit → MadeRow
sum_of gates [] ys c = record { gates = gates; bits = [] }
sum_of gates (a ∷ xs) [] c = record { gates = gates; bits = [] }
sum_of gates (a ∷ []) (b ∷ ys) c = let last = last_sum gates a b c in record { gates = last.gates; bits = last.lit ∷ [] }
sum_of gates (a ∷ d ∷ xs) (b ∷ ys) c =
    let bit = full_sum gates a b c in
    let more = sum_of bit.gates (d ∷ xs) ys bit.carry in
    record { gates = more.gates; bits = bit.sum ∷ more.bits }

-- a - b is a + not b with carry 1
abbrev pub difference_of : Gates → List GateLit → List GateLit → MadeRow
difference_of gates xs ys = sum_of gates xs (map negated ys) (Fixed true)

-- the carry out of the last bit
abbrev pub carry_out : Gates → List GateLit → List GateLit → GateLit → Made
carry_out gates [] ys c = record { gates = gates; lit = c }
carry_out gates (a ∷ xs) [] c = record { gates = gates; lit = c }
carry_out gates (a ∷ xs) (b ∷ ys) c = let next = carry_of gates a b c in carry_out next.gates xs ys next.lit

-- the top bit negated
abbrev pub top_negated : List GateLit → List GateLit
top_negated [] = []
top_negated (b ∷ []) = negated b ∷ []
top_negated (b ∷ c ∷ more) = b ∷ top_negated (c ∷ more)

-- With their top bits negated, signed rows stand in the order of their numbers.
abbrev pub ordered : Bool → List GateLit → List GateLit
ordered false bits = bits
ordered true bits = top_negated bits

-- a < b where a + not b + 1 has no carry
abbrev pub less_of : Bool → Gates → List GateLit → List GateLit → Made
less_of signed gates xs ys = let carry = carry_out gates (ordered signed xs) (map negated (ordered signed ys)) (Fixed true) in record carry { lit = negated carry.lit }

-- the and of the xnor bits
abbrev pub equal_of : Gates → List GateLit → List GateLit → Made
equal_of gates xs ys = let apart = row_of Xor gates xs ys in chain_of And apart.gates (Fixed true) (map negated apart.bits)
