-- What cells add: kind by kind, the value of Y and the number of gates.
use Rattle.cell_gates.proofs.Common.{◌≡◌, ℕ, ◌+◌, ◌-◌, ◌*◌, ◌%◌, ◌^◌, ◌≤◌, max, Bool, true, false, not, List, [], ◌∷◌, ◌++◌, length, map, take, drop, replicate, refl, sym, ap, subst, ◌∙◌, arith}
use Rattle.cell_gates.proofs.Common.{if◌then◌else◌, bit_and, bit_or, bit_xor, All, fold, length-map, length-replicate, length-append, length-take, map-append, take-map, All-nil, All-cons, All-head}
use Rattle.cell_gates.proofs.Common.{All-tail, All-append, All-take, All-replicate, mul-le-mul_left, Values, CellKind, Shape, Unary, Binary, Relation, Shift, Reduction, Logical, Choice, Selection}
use Rattle.cell_gates.proofs.Common.{Insertion, digit, number, all_ones, some_one, odd_ones, laid_at, shape_of, HasWidths, GateLit, Fixed, Gates, count, IsLit, lit_value, Up, Down, MadeRow}
use Rattle.cell_gates.proofs.Common.{IsOperation, made_by, row_of, chain_of, fitted_to, lit_values, operation_value, both_bits, Grows, AddsBits, AddsLit, moved, shift_of, hold-before, grows-none}
use Rattle.cell_gates.proofs.Common.{grows-then, grows-most, lit-later, lits-later, fold-all, fold-some, fold-odd, lits-negated, values-negated, sum-number, difference-number, less-adds, equal-adds}
use Rattle.cell_gates.proofs.Common.{map-replicate, both-chosen, reduced, logical, first_lit, top_lit, kept_in, put_in, cell_row, weight, CellIs}
use Rattle.netlist_core.specs.declared.cell.CellKind.TheVariants.{Not, Neg, And, Or, Xor, Xnor, Add, Sub, Mul, Lt, Le, Gt, Ge, Eq, Ne, Shl, Shr, Sshr, Rand, Ror, Rxor, Rnand, Rnor, Rxnor, Lnot, Land}
use Rattle.netlist_core.specs.declared.cell.CellKind.TheVariants.{Lor, Mux, Pick, Put}
use Rattle.gate_list.specs.Folding.{Made, negated, negated_if}
use Rattle.gate_list.proofs.Adding.{lit-negated, value-negated}
use Rattle.gate_words.specs.declared.operation.Operation.{Operation}
use Rattle.gate_words.specs.declared.operation.Operation.TheVariants as op
use Rattle.gate_words.proofs.RowLemmas.{operation-adds, row-adds, chain-adds}
use Rattle.gate_words.proofs.ShiftLemmas.{shifted-adds}
use Rattle.gate_words.proofs.ProductLemmas.{number-append, number-zeros, number-up, whole-product}
use Rattle.cell_gates.proofs.CellNumbers.{fits-mod, number-and, number-or, number-xor, number-negated, first-value, top-value, top-within, first-within, fitted-number}
use Rattle.cell_gates.proofs.Laying.{laid-wide}

abbrev pub CellAdds : CellKind → Bool → ℕ → Gates → List (List GateLit) → Type 0
CellAdds kind signed w gates inputs = AddsBits gates (cell_row kind signed w gates inputs).gates (cell_row kind signed w gates inputs).bits w (weight kind (map length inputs ++ w ∷ [])) (CellIs kind signed w inputs)

-- the same row, told in other words
cell-bits : {old new : Gates} {bits : List GateLit} {width most : ℕ} {Is : Values → List Bool → Type 0} (w k : ℕ) (Also : Values → List Bool → Type 0) → AddsBits old new bits width most Is → width ≡ w → most ≤ k → ((values : Values) (found : List Bool) → length found ≡ w → Is values found → Also values found) → AddsBits old new bits w k Also
cell-bits {bits = bits} w k Also adds wide few says = record {
  grows = grows-most k adds.grows few;
  within = adds.within;
  wide = adds.wide ∙ wide;
  is = λ values holds. says values (lit_values values bits) (length-map bits (lit_value values) ∙ adds.wide ∙ wide) (adds.is values holds);
}

-- the row of a literal
cell-lit : {old new : Gates} {lit : GateLit} {most : ℕ} {f : Values → Bool} (negate : Bool) (k : ℕ) → AddsLit old new lit most f → most ≤ k → AddsBits old new (negated_if negate lit ∷ []) 1 k (λ values found. number found ≡ digit (if negate then not (f values) else f values) % 2 ^ 1)
cell-lit {new = new} {lit = lit} true k adds few = record {
  grows = grows-most k adds.grows few;
  within = All-cons (IsLit (count new)) (negated lit) [] (lit-negated (count new) lit adds.within) (All-nil (IsLit (count new)));
  wide = refl;
  is = λ values holds. digit-one (lit_value values (negated lit)) ∙ ap (λ (x : Bool). digit x % 2 ^ 1) (value-negated (count new) values lit adds.within ∙ ap not (adds.is values holds));
} where
  digit-one : (x : Bool) → number (x ∷ []) ≡ digit x % 2 ^ 1
  digit-one true = refl
  digit-one false = refl
cell-lit {new = new} {lit = lit} false k adds few = record {
  grows = grows-most k adds.grows few;
  within = All-cons (IsLit (count new)) lit [] adds.within (All-nil (IsLit (count new)));
  wide = refl;
  is = λ values holds. digit-one (lit_value values lit) ∙ ap (λ (x : Bool). digit x % 2 ^ 1) (adds.is values holds);
} where
  digit-one : (x : Bool) → number (x ∷ []) ≡ digit x % 2 ^ 1
  digit-one true = refl
  digit-one false = refl

at-one : (kind : CellKind) (signed : Bool) (w : ℕ) (gates : Gates) (inputs : List (List GateLit)) → w ≡ 1 → CellAdds kind signed 1 gates inputs → CellAdds kind signed w gates inputs
at-one kind signed w gates inputs one adds = subst (λ (k : ℕ). CellAdds kind signed k gates inputs) (sym one) adds

-- one input port

reduced-adds : (operation : Operation) (start negate : Bool) (gates : Gates) (a : List GateLit) (k : ℕ) (test : List Bool → Bool) → IsOperation (count gates) operation → All (IsLit (count gates)) a → length a ≤ k → ((values : Values) (bits : List Bool) → fold (operation_value operation values) start bits ≡ test bits) → AddsBits gates (reduced operation start negate gates a).gates (reduced operation start negate gates a).bits 1 k (λ values found. number found ≡ digit (if negate then not (test (lit_values values a)) else test (lit_values values a)) % 2 ^ 1)
reduced-adds operation start negate gates a k test is la few same =
    cell-bits 1 k (λ values found. number found ≡ digit (if negate then not (test (lit_values values a)) else test (lit_values values a)) % 2 ^ 1)
    (cell-lit negate k (chain-adds operation gates (Fixed start) a is tt la) few)
    refl (omega arith)
    (λ values found long e. e ∙ ap (λ (x : Bool). digit (if negate then not x else x) % 2 ^ 1) (same values (lit_values values a)))

pub one-adds : (kind : CellKind) (signed : Bool) (w : ℕ) (gates : Gates) (a : List GateLit) → All (IsLit (count gates)) a → HasWidths (shape_of kind) (length a ∷ w ∷ []) → CellAdds kind signed w gates (a ∷ [])
one-adds Not signed w gates a la has = record {
  grows = grows-none gates 0;
  within = lits-negated (count gates) a la;
  wide = length-map a negated ∙ has;
  is = λ values holds. ap number (values-negated (count gates) values a la) ∙ number-negated (lit_values values a) w (length-map a (lit_value values) ∙ has);
}
one-adds Neg signed w gates a la has =
    let zeros : List GateLit = replicate (length a) (Fixed false) in
    let wide : length zeros ≡ length a = length-replicate (length a) (Fixed false) in
    cell-bits w (weight Neg (length a ∷ w ∷ [])) (CellIs Neg signed w (a ∷ []))
    (difference-number gates zeros a (All-replicate (IsLit (count gates)) (length a) (Fixed false) tt) la wide)
    (wide ∙ has) (omega (arith, wide))
    (λ values found long e. (
    let none : number (lit_values values zeros) ≡ 0 = ap number (map-replicate (lit_value values) (length a) (Fixed false)) ∙ number-zeros (length a) in
    e ∙ ap (λ (k : ℕ). (2 ^ k + number (lit_values values zeros) - number (lit_values values a)) % 2 ^ k) (wide ∙ has)
    ∙ ap (λ (n : ℕ). n % 2 ^ w) (let f : 2 ^ w + number (lit_values values zeros) - number (lit_values values a) ≡ 2 ^ w - number (lit_values values a) = omega (arith, none) in f)))
one-adds Rand signed w gates a la has = at-one Rand signed w gates (a ∷ []) has (reduced-adds op.And true false gates a (weight Rand (length a ∷ 1 ∷ [])) all_ones tt la (omega arith) fold-all)
one-adds Ror signed w gates a la has = at-one Ror signed w gates (a ∷ []) has (reduced-adds op.Or false false gates a (weight Ror (length a ∷ 1 ∷ [])) some_one tt la (omega arith) fold-some)
one-adds Rxor signed w gates a la has = at-one Rxor signed w gates (a ∷ []) has (reduced-adds op.Xor false false gates a (weight Rxor (length a ∷ 1 ∷ [])) odd_ones tt la (omega arith) fold-odd)
one-adds Rnand signed w gates a la has = at-one Rnand signed w gates (a ∷ []) has (reduced-adds op.And true true gates a (weight Rnand (length a ∷ 1 ∷ [])) all_ones tt la (omega arith) fold-all)
one-adds Rnor signed w gates a la has = at-one Rnor signed w gates (a ∷ []) has (reduced-adds op.Or false true gates a (weight Rnor (length a ∷ 1 ∷ [])) some_one tt la (omega arith) fold-some)
one-adds Rxnor signed w gates a la has = at-one Rxnor signed w gates (a ∷ []) has (reduced-adds op.Xor false true gates a (weight Rxnor (length a ∷ 1 ∷ [])) odd_ones tt la (omega arith) fold-odd)
one-adds Lnot signed w gates a la has = at-one Lnot signed w gates (a ∷ []) has (reduced-adds op.Or false true gates a (weight Lnot (length a ∷ 1 ∷ [])) some_one tt la (omega arith) fold-some)
one-adds And signed w gates a la has = absurd has
one-adds Or signed w gates a la has = absurd has
one-adds Xor signed w gates a la has = absurd has
one-adds Xnor signed w gates a la has = absurd has
one-adds Add signed w gates a la has = absurd has
one-adds Sub signed w gates a la has = absurd has
one-adds Mul signed w gates a la has = absurd has
one-adds Lt signed w gates a la has = absurd has
one-adds Le signed w gates a la has = absurd has
one-adds Gt signed w gates a la has = absurd has
one-adds Ge signed w gates a la has = absurd has
one-adds Eq signed w gates a la has = absurd has
one-adds Ne signed w gates a la has = absurd has
one-adds Shl signed w gates a la has = absurd has
one-adds Shr signed w gates a la has = absurd has
one-adds Sshr signed w gates a la has = absurd has
one-adds Land signed w gates a la has = absurd has
one-adds Lor signed w gates a la has = absurd has
one-adds Mux signed w gates a la has = absurd has
one-adds Pick signed w gates a la has = absurd has
one-adds Put signed w gates a la has = absurd has

-- two input ports

same-values : (values : Values) (a b : List GateLit) → length a ≡ length b → length (lit_values values a) ≡ length (lit_values values b)
same-values values a b same = length-map a (lit_value values) ∙ same ∙ sym (length-map b (lit_value values))

bitwise-adds : (operation : Operation) (f : ℕ → ℕ → ℕ) (gates : Gates) (a b : List GateLit) (w k : ℕ) → IsOperation (count gates) operation → All (IsLit (count gates)) a → All (IsLit (count gates)) b → length a ≡ w → length b ≡ w → w ≤ k → ((values : Values) (xs ys : List Bool) → length xs ≡ length ys → number (both_bits (operation_value operation values) xs ys) ≡ f (number xs) (number ys)) → AddsBits gates (row_of operation gates a b).gates (row_of operation gates a b).bits w k (λ values found. number found ≡ f (number (lit_values values a)) (number (lit_values values b)) % 2 ^ w)
bitwise-adds operation f gates a b w k is la lb wa wb few same =
    cell-bits w k (λ values found. number found ≡ f (number (lit_values values a)) (number (lit_values values b)) % 2 ^ w)
    (row-adds operation gates a b is la lb (wa ∙ sym wb))
    wa (omega (arith, wa, few))
    (λ values found long e. fits-mod found w long ∙ ap (λ (n : ℕ). n % 2 ^ w) (ap number e ∙ same values (lit_values values a) (lit_values values b) (same-values values a b (wa ∙ sym wb))))

-- a chain of `or` from 0 makes no gate at its first bit
some-adds : (gates : Gates) (bits : List GateLit) → All (IsLit (count gates)) bits → AddsLit gates (chain_of op.Or gates (Fixed false) bits).gates (chain_of op.Or gates (Fixed false) bits).lit (length bits - 1) (λ values. some_one (lit_values values bits))
some-adds gates [] lb = record { grows = grows-none gates (0 - 1); within = tt; is = λ values holds. refl }
some-adds gates (b ∷ more) lb =
    let first : Made = made_by op.Or gates (Fixed false) b in
    let adds = operation-adds op.Or gates (Fixed false) b tt tt (All-head (IsLit (count gates)) b more lb) in
    let rest = chain-adds op.Or gates first.lit more tt adds.within (All-tail (IsLit (count gates)) b more lb) in
    record {
      grows = grows-most (length (b ∷ more) - 1) rest.grows (omega arith);
      within = rest.within;
      is = λ values holds. (
          rest.is values holds
          ∙ ap (λ (x : Bool). fold (operation_value op.Or values) x (lit_values values more)) (adds.is values (hold-before rest.grows values holds))
          ∙ fold-some values (lit_values values (b ∷ more)));
    }

logical-adds : (operation : Operation) (g : Bool → Bool → Bool) (gates : Gates) (a b : List GateLit) (k : ℕ) → ((most : ℕ) → IsOperation most operation) → ((values : Values) (x y : Bool) → operation_value operation values x y ≡ g x y) → All (IsLit (count gates)) a → All (IsLit (count gates)) b → length a - 1 + (length b - 1) + 1 ≤ k → AddsBits gates (logical operation gates a b).gates (logical operation gates a b).bits 1 k (λ values found. number found ≡ digit (g (some_one (lit_values values a)) (some_one (lit_values values b))) % 2 ^ 1)
logical-adds operation g gates a b k is same la lb few =
    let first : Made = chain_of op.Or gates (Fixed false) a in
    let A = some-adds gates a la in
    let second : Made = chain_of op.Or first.gates (Fixed false) b in
    let B = some-adds first.gates b (lits-later A.grows b lb) in
    let none = All-nil (IsLit (count second.gates)) in
    let R = row-adds operation second.gates (first.lit ∷ []) (second.lit ∷ []) (is (count second.gates)) (All-cons (IsLit (count second.gates)) first.lit [] (lit-later B.grows first.lit A.within) none) (All-cons (IsLit (count second.gates)) second.lit [] B.within none) refl in
    let both : Grows gates second.gates (length a - 1 + (length b - 1)) = grows-then (length a - 1 + (length b - 1)) A.grows B.grows (omega arith) in
    record {
      grows = grows-then k both R.grows (omega (arith, few));
      within = R.within;
      wide = R.wide;
      is = λ values holds. (
          let hb = hold-before R.grows values holds in
          let x : Bool = some_one (lit_values values a) in
          let y : Bool = some_one (lit_values values b) in
          ap number (
          R.is values holds
          ∙ ap (λ (z : Bool). operation_value operation values z (lit_value values second.lit) ∷ []) (A.is values (hold-before B.grows values hb))
          ∙ ap (λ (z : Bool). operation_value operation values x z ∷ []) (B.is values hb)
          ∙ ap (λ (z : Bool). z ∷ []) (same values x y))
          ∙ digit-one (g x y));
    } where
      digit-one : (x : Bool) → number (x ∷ []) ≡ digit x % 2 ^ 1
      digit-one true = refl
      digit-one false = refl

fitted-values : (values : Values) (w : ℕ) (bits : List GateLit) → lit_values values (fitted_to w bits) ≡ take w (lit_values values bits) ++ replicate (w - length (lit_values values bits)) false
fitted-values values w bits =
    map-append (lit_value values) (take w bits) (replicate (w - length bits) (Fixed false))
    ∙ ap (λ (l : List Bool). l ++ map (lit_value values) (replicate (w - length bits) (Fixed false))) (sym (take-map (lit_value values) w bits))
    ∙ ap (λ (l : List Bool). take w (lit_values values bits) ++ l) (map-replicate (lit_value values) (w - length bits) (Fixed false) ∙ ap (λ (k : ℕ). replicate (w - k) false) (sym (length-map bits (lit_value values))))

pub fitted-within : (most w : ℕ) (bits : List GateLit) → All (IsLit most) bits → All (IsLit most) (fitted_to w bits)
fitted-within most w bits are = All-append (IsLit most) (take w bits) (replicate (w - length bits) (Fixed false)) (All-take (IsLit most) w bits are) (All-replicate (IsLit most) (w - length bits) (Fixed false) tt)

pub length-fitted : (w : ℕ) (bits : List GateLit) → length (fitted_to w bits) ≡ w
length-fitted w bits = omega (arith, length-append (take w bits) (replicate (w - length bits) (Fixed false)), length-take w bits, length-replicate (w - length bits) (Fixed false))

number-down : (n : ℕ) (bits : List Bool) → number (moved Down n false bits) ≡ number (drop n bits)
number-down n bits =
    let k : ℕ = length bits - length (drop n bits) in
    let z = number-zeros k in
    let e : 2 ^ length (drop n bits) * number (replicate k false) ≡ 0 = ap (λ (x : ℕ). 2 ^ length (drop n bits) * x) z ∙ (omega arith) in
    omega (arith, number-append (drop n bits) (replicate k false), e)

picked-adds : (signed : Bool) (w : ℕ) (gates : Gates) (a b : List GateLit) → All (IsLit (count gates)) a → All (IsLit (count gates)) b → length a ≤ 128 → CellAdds Pick signed w gates (a ∷ b ∷ [])
picked-adds signed w gates a b la lb narrow =
    let down : MadeRow = shift_of Down (Fixed false) gates a b in
    let S = shifted-adds Down (Fixed false) gates a b tt la lb narrow in
    record {
      grows = grows-most (weight Pick (length a ∷ length b ∷ w ∷ [])) S.grows (omega arith);
      within = fitted-within (count down.gates) w down.bits S.within;
      wide = length-fitted w down.bits;
      is = λ values holds. (
          ap number (fitted-values values w down.bits)
          ∙ fitted-number w (lit_values values down.bits)
          ∙ ap (λ (n : ℕ). n % 2 ^ w) (ap number (S.is values holds) ∙ number-down (number (lit_values values b)) (lit_values values a)));
    }

square-le : (m n : ℕ) → m ≤ n → 6 * (m * m) ≤ 6 * (n * n)
square-le m n le = let f : m * m ≤ m * n = mul-le-mul_left m le in let g : n * m ≤ n * n = mul-le-mul_left n le in let h : m * n ≡ n * m = omega arith in omega (arith, f, g, h)

pub two-adds : (kind : CellKind) (signed : Bool) (w : ℕ) (gates : Gates) (a b : List GateLit) → All (IsLit (count gates)) a → All (IsLit (count gates)) b → length a ≤ 128 → HasWidths (shape_of kind) (length a ∷ length b ∷ w ∷ []) → CellAdds kind signed w gates (a ∷ b ∷ [])
two-adds And signed w gates a b la lb narrow has = bitwise-adds op.And bit_and gates a b w (weight And (length a ∷ length b ∷ w ∷ [])) tt la lb has.0 has.1 (omega arith) number-and
two-adds Or signed w gates a b la lb narrow has = bitwise-adds op.Or bit_or gates a b w (weight Or (length a ∷ length b ∷ w ∷ [])) tt la lb has.0 has.1 (omega arith) number-or
two-adds Xor signed w gates a b la lb narrow has = bitwise-adds op.Xor bit_xor gates a b w (weight Xor (length a ∷ length b ∷ w ∷ [])) tt la lb has.0 has.1 (omega arith) number-xor
two-adds Xnor signed w gates a b la lb narrow has =
    let row : MadeRow = row_of op.Xor gates a b in
    let R = row-adds op.Xor gates a b tt la lb (has.0 ∙ sym has.1) in
    record {
      grows = grows-most (weight Xnor (length a ∷ length b ∷ w ∷ [])) R.grows (omega arith);
      within = lits-negated (count row.gates) row.bits R.within;
      wide = length-map row.bits negated ∙ R.wide ∙ has.0;
      is = λ values holds. (
          ap number (values-negated (count row.gates) values row.bits R.within)
          ∙ number-negated (lit_values values row.bits) w (length-map row.bits (lit_value values) ∙ R.wide ∙ has.0)
          ∙ ap (λ (n : ℕ). (2 ^ w - 1 - n) % 2 ^ w) (ap number (R.is values holds) ∙ number-xor values (lit_values values a) (lit_values values b) (same-values values a b (has.0 ∙ sym has.1))));
    }
two-adds Add signed w gates a b la lb narrow has =
    cell-bits w (weight Add (length a ∷ length b ∷ w ∷ [])) (CellIs Add signed w (a ∷ b ∷ [])) (sum-number gates a b (Fixed false) la lb tt (has.0 ∙ sym has.1)) has.0 (omega arith)
    (λ values found long e. e ∙ ap (λ (k : ℕ). (number (lit_values values a) + number (lit_values values b) + 0) % 2 ^ k) has.0 ∙ ap (λ (n : ℕ). n % 2 ^ w) (let f : number (lit_values values a) + number (lit_values values b) + 0 ≡ number (lit_values values a) + number (lit_values values b) = omega arith in f))
two-adds Sub signed w gates a b la lb narrow has =
    cell-bits w (weight Sub (length a ∷ length b ∷ w ∷ [])) (CellIs Sub signed w (a ∷ b ∷ [])) (difference-number gates a b la lb (has.0 ∙ sym has.1)) has.0 (omega arith)
    (λ values found long e. e ∙ ap (λ (k : ℕ). (2 ^ k + number (lit_values values a) - number (lit_values values b)) % 2 ^ k) has.0)
two-adds Mul signed w gates a b la lb narrow has =
    cell-bits w (weight Mul (length a ∷ length b ∷ w ∷ [])) (CellIs Mul signed w (a ∷ b ∷ [])) (whole-product gates a b la lb (has.0 ∙ sym has.1)) has.0 (square-le (length a) (max (length a) (max (length b) (max w 0))) (omega arith))
    (λ values found long e. e ∙ ap (λ (k : ℕ). number (lit_values values a) * number (lit_values values b) % 2 ^ k) has.0)
two-adds Lt signed w gates a b la lb narrow has = at-one Lt signed w gates (a ∷ b ∷ []) has.1 (cell-lit false (weight Lt (length a ∷ length b ∷ 1 ∷ [])) (less-adds signed gates a b la lb has.0) (omega arith))
two-adds Le signed w gates a b la lb narrow has = at-one Le signed w gates (a ∷ b ∷ []) has.1 (cell-lit true (weight Le (length a ∷ length b ∷ 1 ∷ [])) (less-adds signed gates b a lb la (sym has.0)) (omega arith))
two-adds Gt signed w gates a b la lb narrow has = at-one Gt signed w gates (a ∷ b ∷ []) has.1 (cell-lit false (weight Gt (length a ∷ length b ∷ 1 ∷ [])) (less-adds signed gates b a lb la (sym has.0)) (omega arith))
two-adds Ge signed w gates a b la lb narrow has = at-one Ge signed w gates (a ∷ b ∷ []) has.1 (cell-lit true (weight Ge (length a ∷ length b ∷ 1 ∷ [])) (less-adds signed gates a b la lb has.0) (omega arith))
two-adds Eq signed w gates a b la lb narrow has = at-one Eq signed w gates (a ∷ b ∷ []) has.1 (cell-lit false (weight Eq (length a ∷ length b ∷ 1 ∷ [])) (equal-adds gates a b la lb has.0) (omega arith))
two-adds Ne signed w gates a b la lb narrow has = at-one Ne signed w gates (a ∷ b ∷ []) has.1 (cell-lit true (weight Ne (length a ∷ length b ∷ 1 ∷ [])) (equal-adds gates a b la lb has.0) (omega arith))
two-adds Shl signed w gates a b la lb narrow has =
    cell-bits w (weight Shl (length a ∷ length b ∷ w ∷ [])) (CellIs Shl signed w (a ∷ b ∷ [])) (shifted-adds Up (Fixed false) gates a b tt la lb narrow) has (omega arith)
    (λ values found long e. (
    let n : ℕ = number (lit_values values b) in
    ap number e ∙ number-up n (lit_values values a) ∙ ap (λ (k : ℕ). 2 ^ n * number (lit_values values a) % 2 ^ k) (length-map a (lit_value values) ∙ has)
    ∙ ap (λ (m : ℕ). m % 2 ^ w) (let f : 2 ^ n * number (lit_values values a) ≡ number (lit_values values a) * 2 ^ n = omega arith in f)))
two-adds Shr signed w gates a b la lb narrow has =
    cell-bits w (weight Shr (length a ∷ length b ∷ w ∷ [])) (CellIs Shr signed w (a ∷ b ∷ [])) (shifted-adds Down (Fixed false) gates a b tt la lb narrow) has (omega arith)
    (λ values found long e. fits-mod found w long ∙ ap (λ (l : List Bool). number l % 2 ^ w) e)
two-adds Sshr signed w gates a b la lb narrow has =
    cell-bits w (weight Sshr (length a ∷ length b ∷ w ∷ [])) (CellIs Sshr signed w (a ∷ b ∷ [])) (shifted-adds Down (top_lit a) gates a b (top-within (count gates) a la) la lb narrow) has (omega arith)
    (λ values found long e. fits-mod found w long ∙ ap (λ (l : List Bool). number l % 2 ^ w) (e ∙ ap (λ (x : Bool). moved Down (number (lit_values values b)) x (lit_values values a)) (top-value values a)))
two-adds Land signed w gates a b la lb narrow has = at-one Land signed w gates (a ∷ b ∷ []) has (logical-adds op.And (λ x y. if x then y else false) gates a b (weight Land (length a ∷ length b ∷ 1 ∷ [])) (λ most. tt) (λ values x y. refl) la lb (omega arith))
two-adds Lor signed w gates a b la lb narrow has = at-one Lor signed w gates (a ∷ b ∷ []) has (logical-adds op.Or (λ x y. if x then true else y) gates a b (weight Lor (length a ∷ length b ∷ 1 ∷ [])) (λ most. tt) (λ values x y. refl) la lb (omega arith))
two-adds Pick signed w gates a b la lb narrow has = picked-adds signed w gates a b la lb narrow
two-adds Not signed w gates a b la lb narrow has = absurd has
two-adds Neg signed w gates a b la lb narrow has = absurd has
two-adds Rand signed w gates a b la lb narrow has = absurd has
two-adds Ror signed w gates a b la lb narrow has = absurd has
two-adds Rxor signed w gates a b la lb narrow has = absurd has
two-adds Rnand signed w gates a b la lb narrow has = absurd has
two-adds Rnor signed w gates a b la lb narrow has = absurd has
two-adds Rxnor signed w gates a b la lb narrow has = absurd has
two-adds Lnot signed w gates a b la lb narrow has = absurd has
two-adds Mux signed w gates a b la lb narrow has = absurd has
two-adds Put signed w gates a b la lb narrow has = absurd has

-- three input ports

chosen-number : (v : Bool) (s a b : List Bool) → s ≡ v ∷ [] → number (if v then b else a) ≡ (if some_one s then number b else number a)
chosen-number true s a b is = rw is refl
chosen-number false s a b is = rw is refl

mux-adds : (signed : Bool) (w : ℕ) (gates : Gates) (s a b : List GateLit) → All (IsLit (count gates)) s → All (IsLit (count gates)) a → All (IsLit (count gates)) b → length s ≡ 1 → length a ≡ w → length b ≡ w → CellAdds Mux signed w gates (s ∷ a ∷ b ∷ [])
mux-adds signed w gates s a b ls la lb one wa wb =
    cell-bits w (weight Mux (length s ∷ length a ∷ length b ∷ w ∷ [])) (CellIs Mux signed w (s ∷ a ∷ b ∷ []))
    (row-adds (op.Mux (first_lit s)) gates a b (first-within (count gates) s ls) la lb (wa ∙ sym wb))
    wa (omega arith)
    (λ values found long e.
    fits-mod found w long
    ∙ ap (λ (n : ℕ). n % 2 ^ w) (
    ap number (e ∙ both-chosen (lit_value values (first_lit s)) (lit_values values a) (lit_values values b) (same-values values a b (wa ∙ sym wb)))
    ∙ chosen-number (lit_value values (first_lit s)) (lit_values values s) (lit_values values a) (lit_values values b) (first-value values s w one)))

-- the row that clears A, and what it is
abbrev pub KeptIs : List GateLit → List GateLit → ℕ → Values → List Bool → Type 0
KeptIs a b ones values found = found ≡ both_bits (operation_value op.And values) (lit_values values a) (map not (moved Up (number (lit_values values b)) false (take (length a) (replicate ones true) ++ replicate (length a - length (replicate ones true)) false)))

pub kept-adds : (gates : Gates) (a b : List GateLit) (ones : ℕ) → All (IsLit (count gates)) a → All (IsLit (count gates)) b → length a ≤ 128 → AddsBits gates (kept_in gates a b ones).gates (kept_in gates a b ones).bits (length a) (9 * length a + length b) (KeptIs a b ones)
kept-adds gates a b ones la lb narrow =
    let row : List GateLit = fitted_to (length a) (replicate ones (Fixed true)) in
    let wide : length row ≡ length a = length-fitted (length a) (replicate ones (Fixed true)) in
    let mask : MadeRow = shift_of Up (Fixed false) gates row b in
    let M = shifted-adds Up (Fixed false) gates row b tt (fitted-within (count gates) (length a) (replicate ones (Fixed true)) (All-replicate (IsLit (count gates)) ones (Fixed true) tt)) lb (omega (arith, wide, narrow)) in
    let clear : List GateLit = map negated mask.bits in
    let K = row-adds op.And mask.gates a clear tt (lits-later M.grows a la) (lits-negated (count mask.gates) mask.bits M.within) (sym (length-map mask.bits negated ∙ M.wide ∙ wide)) in
    record {
      grows = grows-then (9 * length a + length b) M.grows K.grows (omega (arith, wide));
      within = K.within;
      wide = K.wide;
      is = λ values holds. (
          let n : ℕ = number (lit_values values b) in
          let is-ones : lit_values values (replicate ones (Fixed true)) ≡ replicate ones true = map-replicate (lit_value values) ones (Fixed true) in
          let is-row : lit_values values row ≡ take (length a) (replicate ones true) ++ replicate (length a - length (replicate ones true)) false = fitted-values values (length a) (replicate ones (Fixed true)) ∙ ap (λ (l : List Bool). take (length a) l ++ replicate (length a - length l) false) is-ones in
          K.is values holds
          ∙ ap (λ (l : List Bool). both_bits (operation_value op.And values) (lit_values values a) l) (
          values-negated (count mask.gates) values mask.bits M.within
          ∙ ap (λ (l : List Bool). map not l) (M.is values (hold-before K.grows values holds) ∙ ap (λ (l : List Bool). moved Up n false l) is-row)));
    }

put-adds : (signed : Bool) (w : ℕ) (gates : Gates) (a b d : List GateLit) → All (IsLit (count gates)) a → All (IsLit (count gates)) b → All (IsLit (count gates)) d → length a ≤ 128 → length a ≡ w → CellAdds Put signed w gates (a ∷ b ∷ d ∷ [])
put-adds signed w gates a b d la lb ld narrow wa =
    let kept : MadeRow = kept_in gates a b (length d) in
    let K = kept-adds gates a b (length d) la lb narrow in
    let row : List GateLit = fitted_to (length a) d in
    let wide : length row ≡ length a = length-fitted (length a) d in
    let laid : MadeRow = shift_of Up (Fixed false) kept.gates row b in
    let L = shifted-adds Up (Fixed false) kept.gates row b tt (lits-later K.grows row (fitted-within (count gates) (length a) d ld)) (lits-later K.grows b lb) (omega (arith, wide, narrow)) in
    let R = row-adds op.Or laid.gates kept.bits laid.bits tt (lits-later L.grows kept.bits K.within) L.within (K.wide ∙ sym (L.wide ∙ wide)) in
    let both : Grows gates laid.gates (17 * length a + 2 * length b) = grows-then (17 * length a + 2 * length b) K.grows L.grows (omega (arith, wide)) in
    let whole : AddsBits gates (put_in gates a b d).gates (put_in gates a b d).bits (length a) (18 * length a + 2 * length b) (λ values found. found ≡ laid_at (lit_values values a) (number (lit_values values b)) (lit_values values d)) = record {
      grows = grows-then (18 * length a + 2 * length b) both R.grows (omega (arith, K.wide));
      within = R.within;
      wide = R.wide ∙ K.wide;
      is = λ values holds. (
          let n : ℕ = number (lit_values values b) in
          let hl = hold-before R.grows values holds in
          R.is values holds
          ∙ ap (λ (l : List Bool). both_bits (operation_value op.Or values) l (lit_values values laid.bits)) (K.is values (hold-before L.grows values hl))
          ∙ ap (λ (l : List Bool). both_bits (operation_value op.Or values) (both_bits (operation_value op.And values) (lit_values values a) (map not (moved Up n false (take (length a) (replicate (length d) true) ++ replicate (length a - length (replicate (length d) true)) false)))) l) (L.is values hl ∙ ap (λ (l : List Bool). moved Up n false l) (fitted-values values (length a) d))
          ∙ laid-wide values (lit_values values a) (lit_values values d) n (length a) (length d) (length-map a (lit_value values)) (length-map d (lit_value values)));
    } in
    cell-bits w (weight Put (length a ∷ length b ∷ length d ∷ w ∷ [])) (CellIs Put signed w (a ∷ b ∷ d ∷ [])) whole wa (omega arith)
    (λ values found long e. fits-mod found w long ∙ ap (λ (l : List Bool). number l % 2 ^ w) e)

pub three-adds : (kind : CellKind) (signed : Bool) (w : ℕ) (gates : Gates) (a b d : List GateLit) → All (IsLit (count gates)) a → All (IsLit (count gates)) b → All (IsLit (count gates)) d → length a ≤ 128 → HasWidths (shape_of kind) (length a ∷ length b ∷ length d ∷ w ∷ []) → CellAdds kind signed w gates (a ∷ b ∷ d ∷ [])
three-adds Mux signed w gates a b d la lb ld narrow has = mux-adds signed w gates a b d la lb ld has.0 has.1 has.2
three-adds Put signed w gates a b d la lb ld narrow has = put-adds signed w gates a b d la lb ld narrow has
three-adds And signed w gates a b d la lb ld narrow has = absurd has
three-adds Or signed w gates a b d la lb ld narrow has = absurd has
three-adds Xor signed w gates a b d la lb ld narrow has = absurd has
three-adds Xnor signed w gates a b d la lb ld narrow has = absurd has
three-adds Add signed w gates a b d la lb ld narrow has = absurd has
three-adds Sub signed w gates a b d la lb ld narrow has = absurd has
three-adds Mul signed w gates a b d la lb ld narrow has = absurd has
three-adds Lt signed w gates a b d la lb ld narrow has = absurd has
three-adds Le signed w gates a b d la lb ld narrow has = absurd has
three-adds Gt signed w gates a b d la lb ld narrow has = absurd has
three-adds Ge signed w gates a b d la lb ld narrow has = absurd has
three-adds Eq signed w gates a b d la lb ld narrow has = absurd has
three-adds Ne signed w gates a b d la lb ld narrow has = absurd has
three-adds Shl signed w gates a b d la lb ld narrow has = absurd has
three-adds Shr signed w gates a b d la lb ld narrow has = absurd has
three-adds Sshr signed w gates a b d la lb ld narrow has = absurd has
three-adds Land signed w gates a b d la lb ld narrow has = absurd has
three-adds Lor signed w gates a b d la lb ld narrow has = absurd has
three-adds Pick signed w gates a b d la lb ld narrow has = absurd has
three-adds Not signed w gates a b d la lb ld narrow has = absurd has
three-adds Neg signed w gates a b d la lb ld narrow has = absurd has
three-adds Rand signed w gates a b d la lb ld narrow has = absurd has
three-adds Ror signed w gates a b d la lb ld narrow has = absurd has
three-adds Rxor signed w gates a b d la lb ld narrow has = absurd has
three-adds Rnand signed w gates a b d la lb ld narrow has = absurd has
three-adds Rnor signed w gates a b d la lb ld narrow has = absurd has
three-adds Rxnor signed w gates a b d la lb ld narrow has = absurd has
three-adds Lnot signed w gates a b d la lb ld narrow has = absurd has

-- any number of input ports

no-widths : (shape : Shape) (w : ℕ) → HasWidths shape (w ∷ []) → ⊥
no-widths Unary w has = has
no-widths Binary w has = has
no-widths Relation w has = has
no-widths Shift w has = has
no-widths Reduction w has = has
no-widths Logical w has = has
no-widths Choice w has = has
no-widths Selection w has = has
no-widths Insertion w has = has

many-widths : (shape : Shape) (a b c d : ℕ) (rest : List ℕ) → 1 ≤ length rest → HasWidths shape (a ∷ b ∷ c ∷ d ∷ rest) → ⊥
many-widths shape a b c d [] some has = absurd (omega arith)
many-widths Unary a b c d (e ∷ rest) some has = has
many-widths Binary a b c d (e ∷ rest) some has = has
many-widths Relation a b c d (e ∷ rest) some has = has
many-widths Shift a b c d (e ∷ rest) some has = has
many-widths Reduction a b c d (e ∷ rest) some has = has
many-widths Logical a b c d (e ∷ rest) some has = has
many-widths Choice a b c d (e ∷ rest) some has = has
many-widths Selection a b c d (e ∷ rest) some has = has
many-widths Insertion a b c d (e ∷ rest) some has = has

pub cell-adds : (kind : CellKind) (signed : Bool) (w : ℕ) (gates : Gates) (inputs : List (List GateLit)) → All (All (IsLit (count gates))) inputs → All (λ bits. length bits ≤ 128) inputs → HasWidths (shape_of kind) (map length inputs ++ w ∷ []) → CellAdds kind signed w gates inputs
cell-adds kind signed w gates [] lits narrow has = absurd (no-widths (shape_of kind) w has)
cell-adds kind signed w gates (a ∷ []) lits narrow has = one-adds kind signed w gates a (lits 0 a (omega arith)) has
cell-adds kind signed w gates (a ∷ b ∷ []) lits narrow has = two-adds kind signed w gates a b (lits 0 a (omega arith)) (lits 1 a (omega arith)) (narrow 0 a (omega arith)) has
cell-adds kind signed w gates (a ∷ b ∷ d ∷ []) lits narrow has = three-adds kind signed w gates a b d (lits 0 a (omega arith)) (lits 1 a (omega arith)) (lits 2 a (omega arith)) (narrow 0 a (omega arith)) has
cell-adds kind signed w gates (a ∷ b ∷ d ∷ e ∷ more) lits narrow has = absurd (many-widths (shape_of kind) (length a) (length b) (length d) (length e) (map length more ++ w ∷ []) (omega (arith, length-append (map length more) (w ∷ []))) has)
