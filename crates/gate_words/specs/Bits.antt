-- What the bits of a row are, wherever the gates hold.
use Rattle.std.specs.Prelude.{◌≡◌, ℕ, ◌≤◌, ◌++◌, Bool, true, false, not, List, [], ◌∷◌, All, length, map, if◌then◌else◌}
use Rattle.clause_store.specs.Clauses.{Values}
use Rattle.gate_list.specs.declared.gate.Gate.{Gate}
use Rattle.gate_list.specs.declared.literal.GateLit.{GateLit}
use Rattle.gate_list.specs.Gates.{Gates, count, IsLit, lit_value, Hold}
use Rattle.gate_words.specs.declared.operation.Operation.{Operation}
use Rattle.gate_words.specs.declared.operation.Operation.TheVariants.{And, Or, Xor, Mux}

-- the bits' values
abbrev pub lit_values : Values → List GateLit → List Bool
lit_values values bits = map (lit_value values) bits

abbrev pub operation_value : Operation → Values → Bool → Bool → Bool
operation_value And values a b = if a then b else false
operation_value Or values a b = if a then true else b
operation_value Xor values a b = if a then not b else b
operation_value (Mux s) values a b = if lit_value values s then b else a

-- an operation on two rows of bits
abbrev pub both_bits : (Bool → Bool → Bool) → List Bool → List Bool → List Bool
both_bits f [] ys = []
both_bits f (a ∷ xs) [] = []
both_bits f (a ∷ xs) (b ∷ ys) = f a b ∷ both_bits f xs ys

-- the gates that were there stand, and at most so many were added after them
pub record Grows (old new : Gates) (most : ℕ) : Type 0 where
  pub free : new.free ≡ old.free
  pub added : List Gate
  pub grown : new.made ≡ old.made ++ added
  pub few : length added ≤ most

-- At most so many gates were added, and in all values in which the gates hold, the row of this width has such values.
pub record AddsBits (old new : Gates) (bits : List GateLit) (width most : ℕ) (Is : Values → List Bool → Type 0) : Type 0 where
  pub grows : Grows old new most
  pub within : All (IsLit (count new)) bits
  pub wide : length bits ≡ width
  pub is : (values : Values) → Hold new values → Is values (lit_values values bits)

-- the same of one literal, which has this value
pub record AddsLit (old new : Gates) (lit : GateLit) (most : ℕ) (f : Values → Bool) : Type 0 where
  pub grows : Grows old new most
  pub within : IsLit (count new) lit
  pub is : (values : Values) → Hold new values → lit_value values lit ≡ f values
