-- Gates as clauses (Tseitin): the clauses of a gate are true exactly where its variable has the gate's value.
use Rattle.std.specs.Prelude.{◌≡◌, ◌⊎◌, ℕ, suc, Bool, true, false, List, [], ◌∷◌, ◌++◌, ℤ, pos, neg_ℤ, if◌then◌else◌}
use Rattle.clause_store.specs.Clauses.{Values}
use Rattle.gate_list.specs.declared.gate.Gate.{Gate}
use Rattle.gate_list.specs.declared.gate.Gate.TheVariants.{And, Xor, Mux}
use Rattle.gate_list.specs.declared.literal.GateLit.{GateLit}
use Rattle.gate_list.specs.declared.literal.GateLit.TheVariants.{Fixed, Var}
use Rattle.gate_list.specs.Gates.{Gates, lit_value}

-- the clauses of the gate whose variable is y
abbrev pub gate_clauses : ℤ → Gate → List (List ℤ)
gate_clauses y (And a b) = (neg_ℤ y ∷ a ∷ []) ∷ (neg_ℤ y ∷ b ∷ []) ∷ (y ∷ neg_ℤ a ∷ neg_ℤ b ∷ []) ∷ []
gate_clauses y (Xor a b) = (neg_ℤ y ∷ a ∷ b ∷ []) ∷ (neg_ℤ y ∷ neg_ℤ a ∷ neg_ℤ b ∷ []) ∷ (y ∷ neg_ℤ a ∷ b ∷ []) ∷ (y ∷ a ∷ neg_ℤ b ∷ []) ∷ []
gate_clauses y (Mux s a b) = (neg_ℤ s ∷ neg_ℤ b ∷ y ∷ []) ∷ (neg_ℤ s ∷ b ∷ neg_ℤ y ∷ []) ∷ (s ∷ neg_ℤ a ∷ y ∷ []) ∷ (s ∷ a ∷ neg_ℤ y ∷ []) ∷ []

-- those of gates in order, the first of which has this variable
abbrev pub clauses_from : ℕ → List Gate → List (List ℤ)
clauses_from next [] = []
clauses_from next (gate ∷ more) = gate_clauses (pos next) gate ++ clauses_from (suc next) more

-- one of the literals is 1 as it stands
abbrev pub has_one : List GateLit → Bool
has_one [] = false
has_one (Fixed b ∷ more) = if b then true else has_one more
has_one (Var l ∷ more) = has_one more

-- the literals of variables
abbrev pub open_lits : List GateLit → List ℤ
open_lits [] = []
open_lits (Fixed b ∷ more) = open_lits more
open_lits (Var l ∷ more) = l ∷ open_lits more

-- the clause that one of the literals is true, which is left out where one is 1 as it stands
abbrev pub one_true : List GateLit → List (List ℤ)
one_true lits = if has_one lits then [] else open_lits lits ∷ []

-- the clauses of the gates in order, and at the end that one of the literals is true
abbrev pub miter_clauses : Gates → List GateLit → List (List ℤ)
miter_clauses gates lits = clauses_from (suc gates.free) gates.made ++ one_true lits

-- one of the literals is true
abbrev pub IsSome : Values → List GateLit → Type 0
IsSome values [] = ⊥
IsSome values (lit ∷ more) = (lit_value values lit ≡ true) ⊎ IsSome values more
