-- The literals of nets, and how bits and rows of literals go together.
use Rattle.std.specs.Prelude.{ℕ, zero, suc, ◌+◌, false, List, [], ◌∷◌, length, map, nat_eq, pos, slice_index_or, if◌then◌else◌}
use Rattle.clause_store.specs.Clauses.{Values}
use Rattle.netlist_core.specs.declared.bit.Bit.{Bit}
use Rattle.netlist_core.specs.declared.bit.Bit.TheVariants.{Fixed, Net}
use Rattle.netlist_core.specs.Runs.{Nets}
use Rattle.gate_list.specs.declared.literal.GateLit.{GateLit}
use Rattle.gate_list.specs.declared.literal.GateLit.TheVariants as lit
use Rattle.gate_list.specs.Gates.{Gates, count, IsLit, lit_value}

-- A literal for each net number. A number that is no net has one too, which plays no part.
abbrev pub Lits : Type 0
Lits = ℕ → GateLit

-- those of a table by net, and 0 past its end
abbrev pub lits_of : List GateLit → Lits
lits_of table = λ n. slice_index_or table n (lit.Fixed false)

-- every net is 0
abbrev pub no_lits : Lits
no_lits n = lit.Fixed false

abbrev pub bit_lit : Lits → Bit → GateLit
bit_lit lits (Fixed b) = lit.Fixed b
bit_lit lits (Net n) = lits n

-- the literals at bits, and at ports
abbrev pub bits_lits : Lits → List Bit → List GateLit
bits_lits lits bits = map (bit_lit lits) bits

abbrev pub ports_lits : Lits → List (List Bit) → List (List GateLit)
ports_lits lits ports = map (bits_lits lits) ports

-- the nets' literals with that of one bit changed, if it is a net
abbrev pub with_lit : Lits → Bit → GateLit → Lits
with_lit lits (Fixed b) l = lits
with_lit lits (Net n) l = λ m. if nat_eq m n then l else lits m

-- the bits' nets have the literals of a row
abbrev pub laid_lits : Lits → List Bit → List GateLit → Lits
laid_lits lits [] row = lits
laid_lits lits (bit ∷ more) [] = lits
laid_lits lits (bit ∷ more) (l ∷ row) = laid_lits (with_lit lits bit l) more row

-- so many variables from this one on
abbrev pub variables : ℕ → ℕ → List GateLit
variables first zero = []
variables first (suc n) = lit.Var (pos first) ∷ variables (first + 1) n

-- the ports' nets are the variables from this one on, one port after the other
abbrev pub laid_free : Lits → ℕ → List (List Bit) → Lits
laid_free lits first [] = lits
laid_free lits first (bits ∷ more) = laid_free (laid_lits lits bits (variables first (length bits))) (first + length bits) more

-- each literal is a constant, or names a variable that there is
abbrev pub AreWithin : Gates → Lits → Type 0
AreWithin gates lits = (n : ℕ) → IsLit (count gates) (lits n)

-- the nets' values
abbrev pub nets_of : Values → Lits → Nets
nets_of values lits = λ n. lit_value values (lits n)
