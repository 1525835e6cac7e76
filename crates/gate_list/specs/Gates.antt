-- Gates over free bits. Variables 1 to `free` are the free bits, and gate number i, from 0, is the variable `free + 1 + i`.
use Rattle.std.specs.Prelude.{◌≡◌, ℕ, suc, ◌+◌, ◌<◌, ◌≤◌, Bool, false, not, List, [], ◌∷◌, ◌++◌, length, ℤ, if◌then◌else◌}
use Rattle.clause_store.specs.Clauses.{variable, Values, value}
use Rattle.gate_list.specs.declared.gate.Gate.{Gate}
use Rattle.gate_list.specs.declared.gate.Gate.TheVariants.{And, Xor, Mux}
use Rattle.gate_list.specs.declared.literal.GateLit.{GateLit}
use Rattle.gate_list.specs.declared.literal.GateLit.TheVariants.{Fixed, Var}

pub record Gates : Type 0 where
  pub free : ℕ
  pub made : List Gate

-- how many variables there are
abbrev pub count : Gates → ℕ
count gates = gates.free + length gates.made

-- the literal is one of a variable up to this number
abbrev pub IsLiteral : ℕ → ℤ → Type 0
IsLiteral most l = (0 < variable l) × (variable l ≤ most)

abbrev pub IsLit : ℕ → GateLit → Type 0
IsLit most (Fixed b) = Unit {0}
IsLit most (Var l) = IsLiteral most l

-- the gate reads variables up to this number
abbrev pub Reads : ℕ → Gate → Type 0
Reads most (And a b) = IsLiteral most a × IsLiteral most b
Reads most (Xor a b) = IsLiteral most a × IsLiteral most b
Reads most (Mux s a b) = IsLiteral most s × IsLiteral most a × IsLiteral most b

-- each gate reads what stands before it
abbrev pub AreOrdered : ℕ → List Gate → Type 0
AreOrdered most [] = Unit {0}
AreOrdered most (gate ∷ more) = Reads most gate × AreOrdered (suc most) more

abbrev pub lit_value : Values → GateLit → Bool
lit_value values (Fixed b) = b
lit_value values (Var l) = value values l

abbrev pub gate_value : Values → Gate → Bool
gate_value values (And a b) = if value values a then value values b else false
gate_value values (Xor a b) = if value values a then not (value values b) else value values b
gate_value values (Mux s a b) = if value values s then value values b else value values a

-- the variables of these gates, the first of which is `next`, have the gates' values
abbrev pub HoldFrom : ℕ → List Gate → Values → Type 0
HoldFrom next [] values = Unit {0}
HoldFrom next (gate ∷ more) values = (values next ≡ gate_value values gate) × HoldFrom (suc next) more values

abbrev pub Hold : Gates → Values → Type 0
Hold gates values = HoldFrom (suc gates.free) gates.made values

-- At most one gate was added, and in all values in which the gates hold, the literal has this value.
pub record Adds (old new : Gates) (lit : GateLit) (f : Values → Bool) : Type 0 where
  pub free : new.free ≡ old.free
  pub added : List Gate
  pub grown : new.made ≡ old.made ++ added
  pub one : length added ≤ 1
  pub within : IsLit (count new) lit
  pub is : (values : Values) → Hold new values → lit_value values lit ≡ f values
