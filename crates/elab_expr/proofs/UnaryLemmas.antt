-- The cell of a unary operator, of a choice, of a select, of bits that are laid over others and of a condition.
use Rattle.elab_expr.proofs.Common.{◌≡◌, ℕ, zero, suc, ◌+◌, ◌-◌, ◌*◌, ◌/◌, ◌%◌, ◌<◌, ◌≤◌, ◌^◌, Bool, true, false, not, ◌==◌, pos, neg_ℤ, List, [], ◌∷◌, length, refl, sym, ap, ◌∙◌, arith, Some}
use Rattle.elab_expr.proofs.Common.{if◌then◌else◌, nat_tests, mod-eq_of_lt, pow-suc, pow_mono, UnaryOperator, CellKind, Not, Neg, Rand, Ror, Rxor, Rnand, Rnor, Rxnor, Lnot, Mux, Pick, Put, number}
use Rattle.elab_expr.proofs.Common.{cell_value, all_ones, some_one, odd_ones, laid_at, Shape, low_bits, window, parity, digit, unary_value, is_reduction, unary_kind, number-fits}
use Rattle.std.specs.Prelude.{take}
use Rattle.vlog_syntax.specs.declared.operator.UnaryOperator.TheVariants as u
use Rattle.netlist_core.specs.Numbers as n
use Rattle.elab_expr.proofs.KindLemmas.{same_digit, digit_mod, digit_le, some_tells, number-drop, some_of}

not_not : (b : Bool) → not (not b) ≡ b
not_not true = refl
not_not false = refl

one_le : (w : ℕ) → 1 ≤ 2 ^ w
one_le w = pow_mono {i = 0} {j = w} (omega arith)

negative : (w a : ℕ) → a < 2 ^ w → (2 ^ w - a) % 2 ^ w ≡ low_bits w (neg_ℤ (pos a))
negative w zero h = let e : 2 ^ w - 0 ≡ 2 ^ w = omega arith in rw e (whole (2 ^ w) (one_le w))
  where
    whole : (m : ℕ) → 1 ≤ m → m % m ≡ 0 % m
    whole m some = grind (arith)
negative w (suc a) h =
    let small : a % 2 ^ w ≡ a = mod-eq_of_lt (omega arith) in
    let low : (2 ^ w - suc a) % 2 ^ w ≡ 2 ^ w - suc a = mod-eq_of_lt (omega arith) in
    low ∙ omega (arith, small)

inverted : (w a : ℕ) → (2 ^ w - 1 - a) % 2 ^ w ≡ 2 ^ w - 1 - a
inverted w a = let one = one_le w in mod-eq_of_lt (omega (arith, one))

ones_step : (v m : ℕ) → 1 ≤ m → (v == m - 1) ≡ (1 + 2 * v == m * 2 - 1)
ones_step v m some = grind (arith, nat_tests)

zeros_step : (v m : ℕ) → 1 ≤ m → false ≡ (0 + 2 * v == m * 2 - 1)
zeros_step v m some = grind (arith, nat_tests)

all_tells : (xs : List Bool) → all_ones xs ≡ (number xs == 2 ^ length xs - 1)
all_tells [] = refl
all_tells (true ∷ more) =
    let d : 2 ^ suc (length more) ≡ 2 ^ length more * 2 = pow-suc 2 (length more) in
    all_tells more ∙ ones_step (number more) (2 ^ length more) (one_le (length more)) ∙ sym (ap (λ (m : ℕ). 1 + 2 * number more == m - 1) d)
all_tells (false ∷ more) =
    let d : 2 ^ suc (length more) ≡ 2 ^ length more * 2 = pow-suc 2 (length more) in
    zeros_step (number more) (2 ^ length more) (one_le (length more)) ∙ sym (ap (λ (m : ℕ). 0 + 2 * number more == m - 1) d)

parity_step : (b p : Bool) → (n.digit b + n.digit p) % 2 ≡ n.digit (if b then not p else p)
parity_step true true = refl
parity_step true false = refl
parity_step false true = refl
parity_step false false = refl

odd_tells : (xs : List Bool) → parity (length xs) (number xs) ≡ n.digit (odd_ones xs)
odd_tells [] = refl
odd_tells (b ∷ more) =
    let small : n.digit b ≤ 1 = digit_le b in
    let low : (n.digit b + 2 * number more) % 2 ≡ n.digit b = omega (arith, small) in
    let high : (n.digit b + 2 * number more) / 2 ≡ number more = omega (arith, small) in
    ap (λ (m : ℕ). (m + parity (length more) ((n.digit b + 2 * number more) / 2)) % 2) low
    ∙ ap (λ (m : ℕ). (n.digit b + parity (length more) m) % 2) high
    ∙ ap (λ (m : ℕ). (n.digit b + m) % 2) (odd_tells more)
    ∙ parity_step b (odd_ones more)

other_digit : (b : Bool) → digit (not b) ≡ 1 - digit b
other_digit true = refl
other_digit false = refl

odd_value : (w : ℕ) (xs : List Bool) → length xs ≡ w → digit (odd_ones xs) ≡ parity w (number xs)
odd_value w xs lx = sym (same_digit (odd_ones xs)) ∙ sym (odd_tells xs) ∙ ap (λ (m : ℕ). parity m (number xs)) lx

none_tells : (xs : List Bool) → not (some_one xs) ≡ (number xs == 0)
none_tells xs = ap not (some_tells xs) ∙ not_not (number xs == 0)

all_value : (w : ℕ) (xs : List Bool) → length xs ≡ w → all_ones xs ≡ (number xs == 2 ^ w - 1)
all_value w xs lx = all_tells xs ∙ ap (λ (m : ℕ). number xs == 2 ^ m - 1) lx

-- the table of unary kinds, whole
pub unary_cell : (op : UnaryOperator) (kind : CellKind) (s : Shape) (xs : List Bool) → unary_kind op ≡ Some kind → length xs ≡ s.width → cell_value kind false (if is_reduction op then 1 else s.width) (xs ∷ []) ≡ unary_value op s (number xs)
unary_cell u.Plus kind s xs k lx = cc
unary_cell u.Minus kind s xs k lx = rw (some_of Neg kind k) (negative s.width (number xs) (rw (← lx) (number-fits xs)))
unary_cell u.BitwiseNot kind s xs k lx = rw (some_of Not kind k) (inverted s.width (number xs))
unary_cell u.LogicalNot kind s xs k lx = rw (some_of Lnot kind k) (digit_mod (not (some_one xs)) ∙ ap digit (none_tells xs))
unary_cell u.ReductionAnd kind s xs k lx = rw (some_of Rand kind k) (digit_mod (all_ones xs) ∙ ap digit (all_value s.width xs lx))
unary_cell u.ReductionNand kind s xs k lx = rw (some_of Rnand kind k) (digit_mod (not (all_ones xs)) ∙ ap (λ (b : Bool). digit (not b)) (all_value s.width xs lx))
unary_cell u.ReductionOr kind s xs k lx = rw (some_of Ror kind k) (digit_mod (some_one xs) ∙ ap digit (some_tells xs))
unary_cell u.ReductionNor kind s xs k lx = rw (some_of Rnor kind k) (digit_mod (not (some_one xs)) ∙ ap digit (none_tells xs))
unary_cell u.ReductionXor kind s xs k lx = rw (some_of Rxor kind k) (digit_mod (odd_ones xs) ∙ odd_value s.width xs lx)
unary_cell u.ReductionXnor kind s xs k lx = rw (some_of Rxnor kind k) (digit_mod (not (odd_ones xs)) ∙ other_digit (odd_ones xs) ∙ ap (λ (m : ℕ). 1 - m) (odd_value s.width xs lx))

choose : (b : Bool) (x y m : ℕ) → x % m ≡ x → y % m ≡ y → (if b then y else x) % m ≡ (if not b then x else y)
choose true x y m ex ey = ey
choose false x y m ex ey = ex

pub mux_cell : (w : ℕ) (s xs ys : List Bool) → length xs ≡ w → length ys ≡ w → cell_value Mux false w (s ∷ xs ∷ ys ∷ []) ≡ (if number s == 0 then number xs else number ys)
mux_cell w s xs ys lx ly =
    choose (some_one s) (number xs) (number ys) (2 ^ w) (mod-eq_of_lt (rw (← lx) (number-fits xs))) (mod-eq_of_lt (rw (← ly) (number-fits ys)))
    ∙ ap (λ (b : Bool). if b then number xs else number ys) (none_tells s)

pub pick_cell : (w : ℕ) (xs ys : List Bool) → cell_value Pick false w (xs ∷ ys ∷ []) ≡ window (pos (number ys)) w (number xs)
pick_cell w xs ys = ap (λ (m : ℕ). m % 2 ^ w) (number-drop (number ys) xs)

take_short : (n : ℕ) (xs : List Bool) → length (take n xs) ≤ n
take_short zero xs = omega arith
take_short (suc n) [] = omega arith
take_short (suc n) (x ∷ xs) = let e = take_short n xs in omega (arith, e)

pub put_cell : (w : ℕ) (xs ys zs : List Bool) → length xs ≡ w → cell_value Put false w (xs ∷ ys ∷ zs ∷ []) ≡ number (laid_at xs (number ys) zs)
put_cell w xs ys zs lx =
    let l : List Bool = laid_at xs (number ys) zs in
    let short : length l ≤ length xs = take_short (length xs) _ in
    let few : length l ≤ w = omega (arith, short, lx) in
    let fits : number l < 2 ^ length l = number-fits l in
    let wide : 2 ^ length l ≤ 2 ^ w = pow_mono few in
    mod-eq_of_lt (omega (arith, fits, wide))

digit_zero : (b : Bool) → (digit b == 0) ≡ not b
digit_zero true = refl
digit_zero false = refl

pub ror_cell : (xs : List Bool) → (cell_value Ror false 1 (xs ∷ []) == 0) ≡ (number xs == 0)
ror_cell xs = ap (λ (m : ℕ). m == 0) (digit_mod (some_one xs)) ∙ digit_zero (some_one xs) ∙ none_tells xs
