-- Rows of literals, bit 0 first, and the gates that operations on them make, in order.
use Rattle.std.specs.Prelude.{ℕ, ◌-◌, ◌++◌, false, List, [], ◌∷◌, length, take, replicate}
use Rattle.gate_list.specs.declared.literal.GateLit.{GateLit}
use Rattle.gate_list.specs.declared.literal.GateLit.TheVariants.{Fixed}
use Rattle.gate_list.specs.Gates.{Gates, IsLit}
use Rattle.gate_list.specs.Folding.{Made, and_of, or_of, xor_of, mux_of}
use Rattle.gate_words.specs.declared.operation.Operation.{Operation}
use Rattle.gate_words.specs.declared.operation.Operation.TheVariants.{And, Or, Xor, Mux}

-- the gates and a row over them
pub record MadeRow : Type 0 where
  pub gates : Gates
  pub bits : List GateLit

-- a literal of the operation names a variable up to this number
abbrev pub IsOperation : ℕ → Operation → Type 0
IsOperation most And = Unit {0}
IsOperation most Or = Unit {0}
IsOperation most Xor = Unit {0}
IsOperation most (Mux s) = IsLit most s

abbrev pub made_by : Operation → Gates → GateLit → GateLit → Made
made_by And gates a b = and_of gates a b
made_by Or gates a b = or_of gates a b
made_by Xor gates a b = xor_of gates a b
made_by (Mux s) gates a b = mux_of gates s a b

-- A row is made bit by bit from bit 0.
abbrev pub row_of : Operation → Gates → List GateLit → List GateLit → MadeRow
row_of operation gates [] ys = record { gates = gates; bits = [] }
row_of operation gates (a ∷ xs) [] = record { gates = gates; bits = [] }
row_of operation gates (a ∷ xs) (b ∷ ys) =
    let first = made_by operation gates a b in
    let more = row_of operation first.gates xs ys in
    record { gates = more.gates; bits = first.lit ∷ more.bits }

-- A chain goes from bit 0, where a literal stands before it.
abbrev pub chain_of : Operation → Gates → GateLit → List GateLit → Made
chain_of operation gates x [] = record { gates = gates; lit = x }
chain_of operation gates x (b ∷ ys) = let first = made_by operation gates x b in chain_of operation first.gates first.lit ys

-- the row at a width: cut, or filled with 0
abbrev pub fitted_to : ℕ → List GateLit → List GateLit
fitted_to width bits = take width bits ++ replicate (width - length bits) (Fixed false)
