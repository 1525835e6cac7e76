-- What a row that is laid is worth: its number laid on the nets.
use Rattle.netlist_gates.proofs.Common.{◌≡◌, ℕ, zero, suc, ◌+◌, ◌*◌, ◌/◌, ◌%◌, ◌^◌, ◌<◌, Bool, true, false, List, [], ◌∷◌, length, map, nat_eq, refl, sym, ap, subst, ◌∙◌, arith, if◌then◌else◌}
use Rattle.netlist_gates.proofs.Common.{length-map, Bit, Fixed, Net, Nets, bit_values, bit_value, plain, ports_seen, with_net, laid, laid_all, FitPorts, widths, number-fits, GateLit, lit_value}
use Rattle.netlist_gates.proofs.Common.{lit_values, Lits, bit_lit, bits_lits, ports_lits, with_lit, laid_lits, variables, laid_free, nets_of, free_numbers}
use Rattle.std.proofs.lemmas.Nat.{mod-pow-add}
use Rattle.std.proofs.Math.Nat.{mod-eq_of_lt}
use Rattle.clause_store.specs.Clauses.{Values}
use Rattle.netlist_core.specs.Numbers.{digit, number}

-- What is read has the bits' values.

bit-worth : (values : Values) (lits : Lits) (bit : Bit) → lit_value values (bit_lit lits bit) ≡ bit_value (nets_of values lits) bit
bit-worth values lits (Fixed b) = refl
bit-worth values lits (Net n) = refl

pub bits-worth : (values : Values) (lits : Lits) (bits : List Bit) → lit_values values (bits_lits lits bits) ≡ bit_values (nets_of values lits) bits
bits-worth values lits [] = refl
bits-worth values lits (bit ∷ more) = rw (bit-worth values lits bit, bits-worth values lits more) refl

pub ports-worth : (values : Values) (lits : Lits) (c p : ℕ) (ports : List (List Bit)) → map (lit_values values) (ports_lits lits ports) ≡ ports_seen (plain (nets_of values lits)) c p ports
ports-worth values lits c p [] = refl
ports-worth values lits c p (bits ∷ more) =
    let head : lit_values values (bits_lits lits bits) ≡ bit_values (nets_of values lits) bits = bits-worth values lits bits in
    let tail : map (lit_values values) (ports_lits lits more) ≡ ports_seen (plain (nets_of values lits)) c (p + 1) more = ports-worth values lits c (p + 1) more in
    λ i. head i ∷ tail i

pub ports-wide : (lits : Lits) (ports : List (List Bit)) → map length (ports_lits lits ports) ≡ widths ports
ports-wide lits [] = refl
ports-wide lits (bits ∷ more) =
    let head : length (bits_lits lits bits) ≡ length bits = length-map bits (bit_lit lits) in
    let tail : map length (ports_lits lits more) ≡ widths more = ports-wide lits more in
    λ i. head i ∷ tail i

-- A row that is laid.

with-chosen : (values : Values) (b : Bool) (l m : GateLit) → lit_value values (if b then l else m) ≡ (if b then lit_value values l else lit_value values m)
with-chosen values true l m = refl
with-chosen values false l m = refl

with-worth : (values : Values) (lits : Lits) (n : ℕ) (l : GateLit) → nets_of values (with_lit lits (Net n) l) ≡ with_net (nets_of values lits) n (lit_value values l)
with-worth values lits n l = λ i m. with-chosen values (nat_eq m n) l (lits m) i

-- bit 0 of a number, and those above it
low-whole : (v k : ℕ) → v % 2 ^ suc k ≡ (v / 2 ^ 1 % 2 ^ k) * 2 ^ 1 + v % 2 ^ 1
low-whole v k =
    let parts : v % 2 ^ (k + 1) ≡ (v / 2 ^ 1 % 2 ^ k) * 2 ^ 1 + v % 2 ^ 1 = mod-pow-add v k 1 in
    let same : k + 1 ≡ suc k = omega arith in
    rw same at parts

low-bit : (b : Bool) (rest v k : ℕ) → digit b + 2 * rest ≡ v % 2 ^ suc k → nat_eq (v % 2) 1 ≡ b
low-bit true rest v k e = (let whole = low-whole v k in let odd : v % 2 ≡ 1 = omega (arith, whole, e) in rw odd refl)
low-bit false rest v k e = (let whole = low-whole v k in let even : v % 2 ≡ 0 = omega (arith, whole, e) in rw even refl)

high-bits : (b : Bool) (rest v k : ℕ) → digit b + 2 * rest ≡ v % 2 ^ suc k → rest ≡ v / 2 % 2 ^ k
high-bits true rest v k e = (let whole = low-whole v k in omega (arith, whole, e))
high-bits false rest v k e = (let whole = low-whole v k in omega (arith, whole, e))

-- the nets have the low bits of a number, where the row has
pub row-laid : (values : Values) (lits : Lits) (bits : List Bit) (row : List GateLit) (v : ℕ) → length row ≡ length bits → number (lit_values values row) ≡ v % 2 ^ length bits → nets_of values (laid_lits lits bits row) ≡ laid (nets_of values lits) bits v
row-laid values lits [] row v long is = refl
row-laid values lits (bit ∷ more) [] v long is = absurd (omega (arith, long))
row-laid values lits (Fixed b ∷ more) (l ∷ row) v long is = row-laid values lits more row (v / 2) (omega (arith, long)) (high-bits (lit_value values l) (number (lit_values values row)) v (length more) is)
row-laid values lits (Net n ∷ more) (l ∷ row) v long is =
    let b : Bool = lit_value values l in
    let k : ℕ = number (lit_values values row) in
    row-laid values (with_lit lits (Net n) l) more row (v / 2) (omega (arith, long)) (high-bits b k v (length more) is)
    ∙ ap (λ (x : Nets). laid x more (v / 2)) (with-worth values lits n l ∙ ap (λ (x : Bool). with_net (nets_of values lits) n x) (sym (low-bit b k v (length more) is)))

-- Free bits.

pub length-variables : (first n : ℕ) → length (variables first n) ≡ n
length-variables first zero = refl
length-variables first (suc n) = ap suc (length-variables (first + 1) n)

free-fits : (values : Values) (first n : ℕ) → number (lit_values values (variables first n)) < 2 ^ n
free-fits values first n =
    let row : List Bool = lit_values values (variables first n) in
    subst (λ (k : ℕ). number row < 2 ^ k) (length-map (variables first n) (lit_value values) ∙ length-variables first n) (number-fits row)

pub free-worth : (values : Values) (lits : Lits) (first : ℕ) (ports : List (List Bit)) → nets_of values (laid_free lits first ports) ≡ laid_all (nets_of values lits) ports (free_numbers values first ports)
free-worth values lits first [] = refl
free-worth values lits first (bits ∷ more) =
    let row : List GateLit = variables first (length bits) in
    free-worth values (laid_lits lits bits row) (first + length bits) more
    ∙ ap (λ (x : Nets). laid_all x more (free_numbers values (first + length bits) more)) (row-laid values lits bits row (number (lit_values values row)) (length-variables first (length bits)) (sym (mod-eq_of_lt (free-fits values first (length bits)))))

pub free-fit : (values : Values) (first : ℕ) (ports : List (List Bit)) → FitPorts ports (free_numbers values first ports)
free-fit values first [] = tt
free-fit values first (bits ∷ more) = (free-fits values first (length bits), free-fit values (first + length bits) more)
