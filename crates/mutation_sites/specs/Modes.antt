-- The modes of mutations, and which of them a port has.
use Rattle.std.specs.Prelude.{ℕ, Bool, false, List, [], ◌∷◌, filter, nat_lt, if◌then◌else◌}
use Rattle.mutation_sites.specs.declared.mode.Mode.{Mode}
use Rattle.mutation_sites.specs.declared.mode.Mode.TheVariants.{Inv, Const0, Const1, Cnot0, Cnot1}
use Rattle.mutation_sites.specs.declared.mode.ModeSet.{ModeSet}

-- the modes, in the order in which they stand at a bit
abbrev pub all_modes : List Mode
all_modes = Inv ∷ Const0 ∷ Const1 ∷ Cnot0 ∷ Cnot1 ∷ []

-- the mode is in the set
abbrev pub is_in : ModeSet → Mode → Bool
is_in set Inv = set.inv
is_in set Const0 = set.const0
is_in set Const1 = set.const1
is_in set Cnot0 = set.cnot0
is_in set Cnot1 = set.cnot1

-- the modes of the set, in order
abbrev pub modes_of : ModeSet → List Mode
modes_of set = filter (is_in set) all_modes

-- the modes that a port of this width has: with one bit there is no other that could control it
abbrev pub set_at : ModeSet → ℕ → ModeSet
set_at set width = if nat_lt 1 width then set else record set { cnot0 = false; cnot1 = false }
