-- The free bits of a netlist, laid and read as a number.
use Rattle.step_trials.proofs.Common.{suc, ◌≡◌, ℕ, ◌+◌, ◌*◌, ◌/◌, ◌%◌, ◌<◌, ◌^◌, Bool, List, [], ◌∷◌, ◌++◌, length, nat_eq, refl, sym, ◌∙◌, ap, subst, arith, mod-pow-add, pow_pos, map-append}
use Rattle.step_trials.proofs.Common.{append-nil, append_assoc, Bit, Fixed, Net, RawNetlist, number, Nets, bit_value, values, bits_at, q_bits, port_numbers, with_net, laid, laid_all, FitPorts}
use Rattle.step_trials.proofs.Common.{length-values, number-fits, joined, free_list, parts, inputs_of, state_of}
use Rattle.std.proofs.Math.Nat.{mod-lt, mod-eq_of_lt, div-eq_of_lt, div-div-eq-div-mul, add-mul-mod_self_left, add-mul-div_left, pow-succ'}
use Rattle.cell_meaning.proofs.Parts.{number-append}

-- Laying a number.

half-again : (v k : ℕ) → v / 2 / 2 ^ k ≡ v / 2 ^ suc k
half-again v k = div-div-eq-div-mul v 2 (2 ^ k) ∙ ap (λ (n : ℕ). v / n) (sym (pow-succ' 2 k))

-- the low bits of a number: bit 0, and those above it
low-whole : (v k : ℕ) → v % 2 ^ suc k ≡ (v / 2 ^ 1 % 2 ^ k) * 2 ^ 1 + v % 2 ^ 1
low-whole v k =
    let parts_of : v % 2 ^ (k + 1) ≡ (v / 2 ^ 1 % 2 ^ k) * 2 ^ 1 + v % 2 ^ 1 = mod-pow-add v k 1 in
    let same : k + 1 ≡ suc k = omega arith in
    rw same at parts_of

cut-bit : (v k : ℕ) → v % 2 ^ suc k % 2 ≡ v % 2
cut-bit v k = (let whole = low-whole v k in omega (arith, whole))

cut-half : (v k : ℕ) → v % 2 ^ suc k / 2 ≡ v / 2 % 2 ^ k
cut-half v k = (let whole = low-whole v k in omega (arith, whole))

-- only the low bits of a number are laid
pub laid-low : (nets : Nets) (bits : List Bit) (v : ℕ) → laid nets bits (v % 2 ^ length bits) ≡ laid nets bits v
laid-low nets [] v = refl
laid-low nets (Fixed b ∷ more) v = ap (laid nets more) (cut-half v (length more)) ∙ laid-low nets more (v / 2)
laid-low nets (Net n ∷ more) v =
    ap (λ w. laid (with_net nets n (nat_eq w 1)) more (v % 2 ^ suc (length more) / 2)) (cut-bit v (length more))
    ∙ ap (laid (with_net nets n (nat_eq (v % 2) 1)) more) (cut-half v (length more))
    ∙ laid-low (with_net nets n (nat_eq (v % 2) 1)) more (v / 2)

laid-append : (nets : Nets) (xs ys : List Bit) (v : ℕ) → laid nets (xs ++ ys) v ≡ laid (laid nets xs v) ys (v / 2 ^ length xs)
laid-append nets [] ys v = ap (laid nets ys) (let whole : v ≡ v / 2 ^ 0 = omega arith in whole)
laid-append nets (Fixed b ∷ xs) ys v = laid-append nets xs ys (v / 2) ∙ ap (laid (laid nets xs (v / 2)) ys) (half-again v (length xs))
laid-append nets (Net n ∷ xs) ys v =
    let start : Nets = with_net nets n (nat_eq (v % 2) 1) in
    laid-append start xs ys (v / 2) ∙ ap (laid (laid start xs (v / 2)) ys) (half-again v (length xs))

-- a number that is laid over all ports is laid over each in its part
laid-parts : (nets : Nets) (ports : List (List Bit)) (v : ℕ) → laid nets (joined ports) v ≡ laid_all nets ports (parts ports v)
laid-parts nets [] v = refl
laid-parts nets (bits ∷ more) v =
    laid-append nets bits (joined more) v
    ∙ laid-parts (laid nets bits v) more (v / 2 ^ length bits)
    ∙ ap (λ (start : Nets). laid_all start more (parts more (v / 2 ^ length bits))) (sym (laid-low nets bits v))

pub parts-fit : (ports : List (List Bit)) (v : ℕ) → FitPorts ports (parts ports v)
parts-fit [] v = tt
parts-fit (bits ∷ more) v = (mod-lt v (pow_pos (length bits)), parts-fit more (v / 2 ^ length bits))

-- The number of the bits at all ports.

number-low : (xs ys : List Bool) → number (xs ++ ys) % 2 ^ length xs ≡ number xs
number-low xs ys = ap (λ (n : ℕ). n % 2 ^ length xs) (number-append xs ys) ∙ add-mul-mod_self_left (number xs) (2 ^ length xs) (number ys) ∙ mod-eq_of_lt (number-fits xs)

number-high : (xs ys : List Bool) → number (xs ++ ys) / 2 ^ length xs ≡ number ys
number-high xs ys = ap (λ (n : ℕ). n / 2 ^ length xs) (number-append xs ys) ∙ add-mul-div_left (number xs) (number ys) (pow_pos (length xs)) ∙ ap (λ (n : ℕ). n + number ys) (div-eq_of_lt (number-fits xs)) ∙ (let whole : 0 + number ys ≡ number ys = omega arith in whole)

parts-values-first : (nets : Nets) (ports : List (List Bit)) (behind : List Bit) → parts ports (number (values nets (joined ports ++ behind))) ≡ port_numbers nets ports
parts-values-first nets [] behind = refl
parts-values-first nets (bits ∷ more) behind =
    let later : List Bit = joined more ++ behind in
    let whole : values nets ((bits ++ joined more) ++ behind) ≡ values nets bits ++ values nets later = ap (values nets) (append_assoc bits (joined more) behind) ∙ map-append (bit_value nets) bits later in
    let wide : length (values nets bits) ≡ length bits = length-values nets bits in
    let low : number (values nets ((bits ++ joined more) ++ behind)) % 2 ^ length bits ≡ number (values nets bits) = rw (whole, ← wide) (number-low (values nets bits) (values nets later)) in
    let high : number (values nets ((bits ++ joined more) ++ behind)) / 2 ^ length bits ≡ number (values nets later) = rw (whole, ← wide) (number-high (values nets bits) (values nets later)) in
    let rest : parts more (number (values nets later)) ≡ port_numbers nets more = parts-values-first nets more behind in
    rw (low, high, rest) refl

parts-values : (nets : Nets) (ports : List (List Bit)) → parts ports (number (values nets (joined ports))) ≡ port_numbers nets ports
parts-values nets ports = subst (λ (bits : List Bit). parts ports (number (values nets bits)) ≡ port_numbers nets ports) (append-nil (joined ports)) (parts-values-first nets ports [])

-- The free bits.

-- the number of the free bits: what stands at the inputs,
pub inputs-values : (netlist : RawNetlist) (nets : Nets) → inputs_of netlist (number (values nets (free_list netlist))) ≡ port_numbers nets (bits_at netlist.inputs)
inputs-values netlist nets = parts-values-first nets (bits_at netlist.inputs) (joined (q_bits netlist.registers))

-- and what stands in the registers
pub state-values : (netlist : RawNetlist) (nets : Nets) → state_of netlist (number (values nets (free_list netlist))) ≡ port_numbers nets (q_bits netlist.registers)
state-values netlist nets =
    let ins : List Bit = joined (bits_at netlist.inputs) in
    let qs : List Bit = joined (q_bits netlist.registers) in
    let whole : values nets (ins ++ qs) ≡ values nets ins ++ values nets qs = map-append (bit_value nets) ins qs in
    let wide : length (values nets ins) ≡ length ins = length-values nets ins in
    let high : number (values nets (ins ++ qs)) / 2 ^ length ins ≡ number (values nets qs) = rw (whole, ← wide) (number-high (values nets ins) (values nets qs)) in
    ap (parts (q_bits netlist.registers)) high ∙ parts-values nets (q_bits netlist.registers)

-- it is one of those that are tried
pub free-tried : (netlist : RawNetlist) (nets : Nets) → number (values nets (free_list netlist)) < 2 ^ length (free_list netlist)
free-tried netlist nets = subst (λ (n : ℕ). number (values nets (free_list netlist)) < 2 ^ n) (length-values nets (free_list netlist)) (number-fits (values nets (free_list netlist)))

-- a number that is laid over the free bits is laid over the inputs and the registers
pub laid-free : (netlist : RawNetlist) (nets : Nets) (n : ℕ) → laid nets (free_list netlist) n ≡ laid_all (laid_all nets (bits_at netlist.inputs) (inputs_of netlist n)) (q_bits netlist.registers) (state_of netlist n)
laid-free netlist nets n =
    let ins : List (List Bit) = bits_at netlist.inputs in
    let qs : List (List Bit) = q_bits netlist.registers in
    laid-append nets (joined ins) (joined qs) n
    ∙ laid-parts (laid nets (joined ins) n) qs (n / 2 ^ length (joined ins))
    ∙ ap (λ (start : Nets). laid_all start qs (state_of netlist n)) (laid-parts nets ins n)
