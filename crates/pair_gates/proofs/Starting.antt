-- Values of the free bits from those of nets.
use Rattle.pair_gates.proofs.Common.{◌≡◌, ℕ, zero, suc, ◌+◌, ◌-◌, ◌≤◌, Bool, false, List, [], ◌∷◌, ◌++◌, length, get_or, refl, sym, ap, subst, ◌∙◌, arith, append_assoc, length-append, map-append}
use Rattle.pair_gates.proofs.Common.{Values, Bit, number, Nets, bit_value, values, port_numbers, all_bits, length-values, joined, AgreeUpTo, lit_values, variables, free_numbers}
use Rattle.std.proofs.Math.Seq.{get_or-append_seam}

-- variable 1 has the first value, and so on
abbrev pub start_values : List Bool → Values
start_values bits = λ v. get_or bits (v - 1) false

started : (whole before bits after : List Bool) (first : ℕ) → whole ≡ before ++ (bits ++ after) → first ≡ length before + 1 → lit_values (start_values whole) (variables first (length bits)) ≡ bits
started whole before [] after first is at = refl
started whole before (b ∷ more) after first is at =
    let place : first - 1 ≡ length before = omega (arith, at) in
    let head : get_or whole (first - 1) false ≡ b = ap (λ (k : ℕ). get_or whole k false) place ∙ ap (λ (l : List Bool). get_or l (length before) false) is ∙ get_or-append_seam before b (more ++ after) false in
    let next : first + 1 ≡ length (before ++ b ∷ []) + 1 = (let sum = length-append before (b ∷ []) in omega (arith, at, sum)) in
    let tail : lit_values (start_values whole) (variables (first + 1) (length more)) ≡ more = started whole (before ++ b ∷ []) more after (first + 1) (is ∙ sym (append_assoc before (b ∷ []) (more ++ after))) next in
    λ i. head i ∷ tail i

-- the numbers at ports whose bits are the values
pub free-started : (x : Nets) (ports : List (List Bit)) (whole before after : List Bool) (first : ℕ) → whole ≡ before ++ (values x (joined ports) ++ after) → first ≡ length before + 1 → free_numbers (start_values whole) first ports ≡ port_numbers x ports
free-started x [] whole before after first is at = refl
free-started x (bits ∷ more) whole before after first is at =
    let here : List Bool = values x bits in
    let rest : List Bool = values x (joined more) in
    let cut : values x (bits ++ joined more) ≡ here ++ rest = map-append (bit_value x) bits (joined more) in
    let split : whole ≡ before ++ (here ++ (rest ++ after)) = is ∙ ap (λ (l : List Bool). before ++ (l ++ after)) cut ∙ ap (λ (l : List Bool). before ++ l) (append_assoc here rest after) in
    let head : lit_values (start_values whole) (variables first (length bits)) ≡ here = subst (λ (n : ℕ). lit_values (start_values whole) (variables first n) ≡ here) (length-values x bits) (started whole before here (rest ++ after) first split at) in
    let next : first + length bits ≡ length (before ++ here) + 1 = (let sum = length-append before here in let wide = length-values x bits in omega (arith, at, sum, wide)) in
    let tail : free_numbers (start_values whole) (first + length bits) more ≡ port_numbers x more = free-started x more whole (before ++ here) after (first + length bits) (split ∙ sym (append_assoc before here (rest ++ after))) next in
    λ i. number (head i) ∷ tail i

variables-agree : (v w : Values) (most first n : ℕ) → AgreeUpTo most v w → first + n ≤ most + 1 → lit_values v (variables first n) ≡ lit_values w (variables first n)
variables-agree v w most first zero agree few = refl
variables-agree v w most first (suc n) agree few =
    let head : v first ≡ w first = agree first (omega (arith, few)) in
    let tail : lit_values v (variables (first + 1) n) ≡ lit_values w (variables (first + 1) n) = variables-agree v w most (first + 1) n agree (omega (arith, few)) in
    λ i. head i ∷ tail i

-- the numbers rest on the free bits alone
pub free-agree : (v w : Values) (most first : ℕ) (ports : List (List Bit)) → AgreeUpTo most v w → first + all_bits ports ≤ most + 1 → free_numbers v first ports ≡ free_numbers w first ports
free-agree v w most first [] agree few = refl
free-agree v w most first (bits ∷ more) agree few =
    let head : lit_values v (variables first (length bits)) ≡ lit_values w (variables first (length bits)) = variables-agree v w most first (length bits) agree (omega (arith, few)) in
    let tail : free_numbers v (first + length bits) more ≡ free_numbers w (first + length bits) more = free-agree v w most (first + length bits) more agree (omega (arith, few)) in
    λ i. number (head i) ∷ tail i
