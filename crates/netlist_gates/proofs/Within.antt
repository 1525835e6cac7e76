-- Literals of variables that there are.
use Rattle.netlist_gates.proofs.Common.{ℕ, zero, suc, ◌+◌, ◌≤◌, Bool, true, false, List, [], ◌∷◌, length, nat_eq, arith, if◌then◌else◌, All, Bit, Fixed, Net, all_bits, GateLit, Gates, count, IsLit}
use Rattle.netlist_gates.proofs.Common.{Grows, lit-later, Lits, no_lits, bit_lit, bits_lits, ports_lits, with_lit, laid_lits, variables, laid_free, AreWithin}
use Rattle.std.proofs.lemmas.List.Elements.{All-nil, All-cons, All-head, All-tail}

pub within-later : {old new : Gates} {most : ℕ} → Grows old new most → (lits : Lits) → AreWithin old lits → AreWithin new lits
within-later g lits are n = lit-later g (lits n) (are n)

bit-within : (gates : Gates) (lits : Lits) → AreWithin gates lits → (bit : Bit) → IsLit (count gates) (bit_lit lits bit)
bit-within gates lits are (Fixed b) = tt
bit-within gates lits are (Net n) = are n

pub bits-within : (gates : Gates) (lits : Lits) → AreWithin gates lits → (bits : List Bit) → All (IsLit (count gates)) (bits_lits lits bits)
bits-within gates lits are [] = All-nil (IsLit (count gates))
bits-within gates lits are (bit ∷ more) = All-cons (IsLit (count gates)) (bit_lit lits bit) (bits_lits lits more) (bit-within gates lits are bit) (bits-within gates lits are more)

pub ports-within : (gates : Gates) (lits : Lits) → AreWithin gates lits → (ports : List (List Bit)) → All (All (IsLit (count gates))) (ports_lits lits ports)
ports-within gates lits are [] = All-nil (All (IsLit (count gates)))
ports-within gates lits are (bits ∷ more) = All-cons (All (IsLit (count gates))) (bits_lits lits bits) (ports_lits lits more) (bits-within gates lits are bits) (ports-within gates lits are more)

chosen-within : (most : ℕ) (b : Bool) (l m : GateLit) → IsLit most l → IsLit most m → IsLit most (if b then l else m)
chosen-within most true l m is other = is
chosen-within most false l m is other = other

with-within : (gates : Gates) (lits : Lits) (bit : Bit) (l : GateLit) → AreWithin gates lits → IsLit (count gates) l → AreWithin gates (with_lit lits bit l)
with-within gates lits (Fixed b) l are is = are
with-within gates lits (Net n) l are is = λ m. chosen-within (count gates) (nat_eq m n) l (lits m) is (are m)

pub laid-within : (gates : Gates) (lits : Lits) (bits : List Bit) (row : List GateLit) → AreWithin gates lits → All (IsLit (count gates)) row → AreWithin gates (laid_lits lits bits row)
laid-within gates lits [] row are all = are
laid-within gates lits (bit ∷ more) [] are all = are
laid-within gates lits (bit ∷ more) (l ∷ row) are all =
    laid-within gates (with_lit lits bit l) more row (with-within gates lits bit l are (All-head (IsLit (count gates)) l row all)) (All-tail (IsLit (count gates)) l row all)

variables-within : (gates : Gates) (first n : ℕ) → 1 ≤ first → first + n ≤ 1 + count gates → All (IsLit (count gates)) (variables first n)
variables-within gates first zero some few = All-nil (IsLit (count gates))
variables-within gates first (suc n) some few =
    All-cons (IsLit (count gates)) _ (variables (first + 1) n) (omega (arith, some), omega (arith, few)) (variables-within gates (first + 1) n (omega (arith, some)) (omega (arith, few)))

pub free-within : (gates : Gates) (lits : Lits) (first : ℕ) (ports : List (List Bit)) → AreWithin gates lits → 1 ≤ first → first + all_bits ports ≤ 1 + count gates → AreWithin gates (laid_free lits first ports)
free-within gates lits first [] are some few = are
free-within gates lits first (bits ∷ more) are some few =
    free-within gates (laid_lits lits bits (variables first (length bits))) (first + length bits) more
    (laid-within gates lits bits (variables first (length bits)) are (variables-within gates first (length bits) some (omega (arith, few))))
    (omega (arith, some)) (omega (arith, few))

pub none-within : (gates : Gates) → AreWithin gates no_lits
none-within gates n = tt
