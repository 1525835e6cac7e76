-- The cell of an operator has the operator's value.
use Rattle.elab_expr.proofs.Common.{◌≡◌, ℕ, zero, suc, ◌+◌, ◌-◌, ◌*◌, ◌/◌, ◌%◌, ◌<◌, ◌≤◌, ◌^◌, Bool, true, false, not, ◌&&◌, ◌||◌, ◌==◌, ℤ, pos, negsuc, ◌-ℤ◌, List, [], ◌∷◌, ◌++◌, length, drop}
use Rattle.elab_expr.proofs.Common.{replicate, map, refl, sym, ap, ◌∙◌, arith, inl, inr, subst, nat_eq, nat_le, bit_xor, int_lt, if◌then◌else◌, xor_lt, or_lt, ints, nat_tests, leb_tells, mod-eq_of_lt}
use Rattle.elab_expr.proofs.Common.{pow-suc, add-mod_left, div-le_self, zero-div, div-one, shr-shr, CellKind, And, Or, Xor, Xnor, Add, Sub, Mul, Lt, Le, Gt, Ge, Eq, Ne, Shl, Shr, Sshr, Land, Lor}
use Rattle.elab_expr.proofs.Common.{number, cell_value, is_less, signed_number, some_one, top_bit, shifted_down, Shape, integer, low_bits, halved, digit, binary_value, Some, map-append, length-append}
use Rattle.elab_expr.proofs.Common.{length-drop, length-replicate, pow_mono, BinaryOperator, sizing, ArePaired, result_width, binary_kind, is_order, number-fits}
use Rattle.std.specs.Int.Bits.{and_lt}
use Rattle.netlist_core.specs.Numbers as n
use Rattle.vlog_syntax.specs.declared.operator.BinaryOperator.TheVariants as b

-- the words `digit` of both crates
pub same_digit : (x : Bool) → n.digit x ≡ digit x
same_digit true = refl
same_digit false = refl

pub digit_mod : (x : Bool) → n.digit x % 2 ^ 1 ≡ digit x
digit_mod true = refl
digit_mod false = refl

pub digit_le : (x : Bool) → n.digit x ≤ 1
digit_le true = omega arith
digit_le false = omega arith

-- a family where nothing is to be shown: sums and products
pub add_cell : (s t : Shape) (xs ys : List Bool) → cell_value Add false s.width (xs ∷ ys ∷ []) ≡ binary_value b.Add s (number xs) t (number ys)
add_cell s t xs ys = refl

pub multiply_cell : (s t : Shape) (xs ys : List Bool) → cell_value Mul false s.width (xs ∷ ys ∷ []) ≡ binary_value b.Multiply s (number xs) t (number ys)
multiply_cell s t xs ys = refl

pub shift_left_cell : (s t : Shape) (xs ys : List Bool) → cell_value Shl false s.width (xs ∷ ys ∷ []) ≡ binary_value b.LogicalShiftLeft s (number xs) t (number ys)
shift_left_cell s t xs ys = refl

-- bitwise operators: the value fits already
pub and_cell : (s t : Shape) (xs ys : List Bool) → length xs ≡ s.width → length ys ≡ s.width → cell_value And false s.width (xs ∷ ys ∷ []) ≡ binary_value b.BitwiseAnd s (number xs) t (number ys)
and_cell s t xs ys lx ly = mod-eq_of_lt (and_lt s.width (number xs) (number ys) (rw (← lx) (number-fits xs)) (rw (← ly) (number-fits ys)))

pub or_cell : (s t : Shape) (xs ys : List Bool) → length xs ≡ s.width → length ys ≡ s.width → cell_value Or false s.width (xs ∷ ys ∷ []) ≡ binary_value b.BitwiseOr s (number xs) t (number ys)
or_cell s t xs ys lx ly = mod-eq_of_lt (or_lt s.width (number xs) (number ys) (rw (← lx) (number-fits xs)) (rw (← ly) (number-fits ys)))

pub xor_cell : (s t : Shape) (xs ys : List Bool) → length xs ≡ s.width → length ys ≡ s.width → cell_value Xor false s.width (xs ∷ ys ∷ []) ≡ binary_value b.BitwiseXor s (number xs) t (number ys)
xor_cell s t xs ys lx ly = mod-eq_of_lt (xor_lt s.width (number xs) (number ys) (rw (← lx) (number-fits xs)) (rw (← ly) (number-fits ys)))

-- a difference
not_less : (w a c : ℕ) → c ≤ a → a < 2 ^ w → (2 ^ w + a - c) % 2 ^ w ≡ low_bits w (pos a -ℤ pos c)
not_less w a c le fa =
    let e : pos a -ℤ pos c ≡ pos (a - c) = omega (arith, ints) in
    let f : 2 ^ w + a - c ≡ 2 ^ w + (a - c) = omega arith in
    rw (e, f) (add-mod_left (2 ^ w) (a - c))

less : (w a c : ℕ) → a < c → c < 2 ^ w → (2 ^ w + a - c) % 2 ^ w ≡ low_bits w (pos a -ℤ pos c)
less w a c lt fc =
    let e : pos a -ℤ pos c ≡ negsuc (c - 1 - a) = omega (arith, ints) in
    let small : (c - 1 - a) % 2 ^ w ≡ c - 1 - a = mod-eq_of_lt (omega arith) in
    let low : (2 ^ w + a - c) % 2 ^ w ≡ 2 ^ w + a - c = mod-eq_of_lt (omega arith) in
    rw (e, small, low) (omega arith)

difference : (w a c : ℕ) → a < 2 ^ w → c < 2 ^ w → (2 ^ w + a - c) % 2 ^ w ≡ low_bits w (pos a -ℤ pos c)
difference w a c fa fc = elim (leb_tells c a) [ inl h ↦ not_less w a c (h.1) fa | inr h ↦ less w a c (omega (arith, h.1)) fc ]

pub subtract_cell : (s t : Shape) (xs ys : List Bool) → length xs ≡ s.width → length ys ≡ s.width → cell_value Sub false s.width (xs ∷ ys ∷ []) ≡ binary_value b.Subtract s (number xs) t (number ys)
subtract_cell s t xs ys lx ly = difference s.width (number xs) (number ys) (rw (← lx) (number-fits xs)) (rw (← ly) (number-fits ys))

-- equality
pub equal_cell : (s t : Shape) (xs ys : List Bool) → cell_value Eq false 1 (xs ∷ ys ∷ []) ≡ binary_value b.LogicalEquality s (number xs) t (number ys)
equal_cell s t xs ys = digit_mod (nat_eq (number xs) (number ys))

pub unequal_cell : (s t : Shape) (xs ys : List Bool) → cell_value Ne false 1 (xs ∷ ys ∷ []) ≡ binary_value b.LogicalInequality s (number xs) t (number ys)
unequal_cell s t xs ys = digit_mod (not (nat_eq (number xs) (number ys)))

-- order: unsigned at once, signed by the top bits
is_less_unsigned : (s : Shape) (xs ys : List Bool) → s.is_signed ≡ false → is_less false xs ys ≡ int_lt (integer s (number xs)) (integer s (number ys))
is_less_unsigned s xs ys u = rw u refl

pub less_cell : (s t : Shape) (xs ys : List Bool) → is_less s.is_signed xs ys ≡ int_lt (integer s (number xs)) (integer s (number ys)) → cell_value Lt s.is_signed 1 (xs ∷ ys ∷ []) ≡ binary_value b.Less s (number xs) t (number ys)
less_cell s t xs ys e = digit_mod (is_less s.is_signed xs ys) ∙ ap digit e

pub less_equal_cell : (s t : Shape) (xs ys : List Bool) → is_less s.is_signed ys xs ≡ int_lt (integer s (number ys)) (integer s (number xs)) → cell_value Le s.is_signed 1 (xs ∷ ys ∷ []) ≡ binary_value b.LessEqual s (number xs) t (number ys)
less_equal_cell s t xs ys e = digit_mod (not (is_less s.is_signed ys xs)) ∙ ap (λ (x : Bool). digit (not x)) e

half_tells : (k m d : ℕ) → d ≤ 1 → nat_le (2 ^ k) m ≡ nat_le (2 ^ suc k) (d + 2 * m)
half_tells k m d small = let e : 2 ^ suc k ≡ 2 ^ k * 2 = pow-suc 2 k in rw e (grind (arith, nat_tests))

-- the top bit is 1 exactly where the number is at least half of the power
pub top_tells : (xs : List Bool) → 1 ≤ length xs → top_bit xs ≡ nat_le (2 ^ (length xs - 1)) (number xs)
top_tells [] some = absurd (omega arith)
top_tells (true ∷ []) some = refl
top_tells (false ∷ []) some = refl
top_tells (x ∷ y ∷ more) some =
    let k : suc (length more) - 1 ≡ length more = omega arith in
    let j : suc (suc (length more)) - 1 ≡ suc (length more) = omega arith in
    let e : top_bit (y ∷ more) ≡ nat_le (2 ^ length more) (number (y ∷ more)) = rw k at (top_tells (y ∷ more) (omega arith)) in
    let one : n.digit x ≤ 1 = digit_le x in
    rw j (e ∙ half_tells (length more) (number (y ∷ more)) (n.digit x) one)

-- the number in two's complement, in the terms of both crates
signed_is : (s : Shape) (xs : List Bool) → s.is_signed ≡ true → 1 ≤ s.width → length xs ≡ s.width → signed_number xs ≡ integer s (number xs)
signed_is s xs sign some lx =
    let top : top_bit xs ≡ nat_le (2 ^ (s.width - 1)) (number xs) = rw (← lx) (top_tells xs (omega arith)) in
    let p : Bool = nat_le (2 ^ (s.width - 1)) (number xs) in
    ap (λ (k : Bool). if k then pos (number xs) -ℤ pos (2 ^ length xs) else pos (number xs)) top
    ∙ ap (λ (w : ℕ). if p then pos (number xs) -ℤ pos (2 ^ w) else pos (number xs)) lx
    ∙ sym (ap (λ (k : Bool). if k && p then pos (number xs) -ℤ pos (2 ^ s.width) else pos (number xs)) sign)

is_less_signed : (s : Shape) (xs ys : List Bool) → s.is_signed ≡ true → 1 ≤ s.width → length xs ≡ s.width → length ys ≡ s.width → is_less true xs ys ≡ int_lt (integer s (number xs)) (integer s (number ys))
is_less_signed s xs ys sign some lx ly = ap (λ (z : ℤ). int_lt z (signed_number ys)) (signed_is s xs sign some lx) ∙ ap (int_lt (integer s (number xs))) (signed_is s ys sign some ly)

pub is_less_both : (s : Shape) (xs ys : List Bool) → 1 ≤ s.width → length xs ≡ s.width → length ys ≡ s.width → is_less s.is_signed xs ys ≡ int_lt (integer s (number xs)) (integer s (number ys))
is_less_both s xs ys some lx ly = go s.is_signed refl
  where
    go : (sign : Bool) → s.is_signed ≡ sign → is_less s.is_signed xs ys ≡ int_lt (integer s (number xs)) (integer s (number ys))
    go true e = ap (λ (k : Bool). is_less k xs ys) e ∙ is_less_signed s xs ys e some lx ly
    go false e = ap (λ (k : Bool). is_less k xs ys) e ∙ is_less_unsigned s xs ys e

zero_tells : (n : ℕ) → (n == 0) ≡ (0 + 2 * n == 0)
zero_tells n = grind (arith, nat_tests)

-- logical operators
pub some_tells : (xs : List Bool) → some_one xs ≡ not (number xs == 0)
some_tells [] = refl
some_tells (true ∷ more) = grind (arith, nat_tests)
some_tells (false ∷ more) = let e = some_tells more in e ∙ ap not (zero_tells (number more))

-- shifts to the right
pub number-drop : (k : ℕ) (xs : List Bool) → number (drop k xs) ≡ number xs / 2 ^ k
number-drop zero xs = sym (div-one (number xs))
number-drop (suc k) [] = sym (zero-div (2 ^ suc k))
number-drop (suc k) (x ∷ xs) =
    let half : (n.digit x + 2 * number xs) / 2 ≡ number xs = (let small : n.digit x ≤ 1 = digit_le x in omega arith) in
    let one : 1 + k ≡ suc k = omega arith in
    number-drop k xs ∙ ap (λ (m : ℕ). m / 2 ^ k) (sym half) ∙ shr-shr (n.digit x + 2 * number xs) 1 k ∙ ap (λ (m : ℕ). (n.digit x + 2 * number xs) / 2 ^ m) one

number-zeros : (xs : List Bool) (k : ℕ) → number (xs ++ replicate k false) ≡ number xs
number-zeros [] zero = refl
number-zeros [] (suc k) = let e = number-zeros [] k in omega (arith, e)
number-zeros (x ∷ xs) k = ap (λ (m : ℕ). n.digit x + 2 * m) (number-zeros xs k)

pub shift_right_cell : (s t : Shape) (xs ys : List Bool) → length xs ≡ s.width → cell_value Shr false s.width (xs ∷ ys ∷ []) ≡ binary_value b.LogicalShiftRight s (number xs) t (number ys)
shift_right_cell s t xs ys lx =
    let e : number (shifted_down xs (number ys) false) ≡ number xs / 2 ^ number ys = number-zeros (drop (number ys) xs) (length xs - length (drop (number ys) xs)) ∙ number-drop (number ys) xs in
    let le : number xs / 2 ^ number ys ≤ number xs = div-le_self (number xs) (2 ^ number ys) in
    let fits : number xs < 2 ^ s.width = rw (← lx) (number-fits xs) in
    rw e (mod-eq_of_lt (omega arith))

-- an unsigned `>>>` is `>>`
unsigned_halved : (s : Shape) (v k : ℕ) → s.is_signed ≡ false → v < 2 ^ s.width → low_bits s.width (halved (integer s v) k) ≡ v / 2 ^ k
unsigned_halved s v k u h =
    let le : v / 2 ^ k ≤ v = div-le_self v (2 ^ k) in
    rw u (mod-eq_of_lt (omega arith))

pub xnor_cell : (s t : Shape) (xs ys : List Bool) → cell_value Xnor false s.width (xs ∷ ys ∷ []) ≡ binary_value b.BitwiseXnor s (number xs) t (number ys)
xnor_cell s t xs ys = mod-eq_of_lt (below s.width (bit_xor (number xs) (number ys)))
  where
    below : (w a : ℕ) → 2 ^ w - 1 - a < 2 ^ w
    below w a = let e : 2 ^ 0 ≤ 2 ^ w = pow_mono {i = 0} {j = w} (omega arith) in omega arith

both_tell : (p q : Bool) → (if p then q else false) ≡ p && q
both_tell true q = refl
both_tell false q = refl

either_tells : (p q : Bool) → (if p then true else q) ≡ p || q
either_tells true q = refl
either_tells false q = refl

pub and_then_cell : (s t : Shape) (xs ys : List Bool) → cell_value Land false 1 (xs ∷ ys ∷ []) ≡ binary_value b.LogicalAnd s (number xs) t (number ys)
and_then_cell s t xs ys = digit_mod (if some_one xs then some_one ys else false) ∙ ap digit (both_tell (some_one xs) (some_one ys) ∙ ap (λ (p : Bool). p && some_one ys) (some_tells xs) ∙ ap (λ (q : Bool). not (number xs == 0) && q) (some_tells ys))

pub or_else_cell : (s t : Shape) (xs ys : List Bool) → cell_value Lor false 1 (xs ∷ ys ∷ []) ≡ binary_value b.LogicalOr s (number xs) t (number ys)
or_else_cell s t xs ys = digit_mod (if some_one xs then true else some_one ys) ∙ ap digit (either_tells (some_one xs) (some_one ys) ∙ ap (λ (p : Bool). p || some_one ys) (some_tells xs) ∙ ap (λ (q : Bool). not (number xs == 0) || q) (some_tells ys))

pub some_of : {A : Type 0} (x y : A) → Some x ≡ Some y → y ≡ x
some_of x y e = cc

-- the bits inverted
number-not : (xs : List Bool) → number (map not xs) + number xs + 1 ≡ 2 ^ length xs
number-not [] = refl
number-not (x ∷ xs) =
    let e = number-not xs in
    let d : 2 ^ suc (length xs) ≡ 2 ^ length xs * 2 = pow-suc 2 (length xs) in
    let o : n.digit (not x) + n.digit x ≡ 1 = digit_not x in
    omega arith
  where
    digit_not : (x : Bool) → n.digit (not x) + n.digit x ≡ 1
    digit_not true = refl
    digit_not false = refl

not-drop : (k : ℕ) (xs : List Bool) → map not (drop k xs) ≡ drop k (map not xs)
not-drop zero xs = refl
not-drop (suc k) [] = refl
not-drop (suc k) (x ∷ xs) = not-drop k xs

not-ones : (k : ℕ) → map not (replicate k true) ≡ replicate k false
not-ones zero = refl
not-ones (suc k) = ap (λ (l : List Bool). false ∷ l) (not-ones k)

shifted_ones : (xs : List Bool) (k m : ℕ) → number (drop k xs ++ replicate m true) + (2 ^ length xs - 1 - number xs) / 2 ^ k + 1 ≡ 2 ^ length (drop k xs ++ replicate m true)
shifted_ones xs k m =
    let all : List Bool = drop k xs ++ replicate m true in
    let e : number (map not all) + number all + 1 ≡ 2 ^ length all = number-not all in
    let inverted : map not all ≡ drop k (map not xs) ++ replicate m false = map-append not (drop k xs) (replicate m true) ∙ ap (λ (l : List Bool). l ++ map not (replicate m true)) (not-drop k xs) ∙ ap (λ (l : List Bool). drop k (map not xs) ++ l) (not-ones m) in
    let value : number (map not all) ≡ number (map not xs) / 2 ^ k = ap number inverted ∙ number-zeros (drop k (map not xs)) m ∙ number-drop k (map not xs) in
    let top : number (map not xs) ≡ 2 ^ length xs - 1 - number xs = (let f = number-not xs in omega (arith, f)) in
    let both : number (map not all) ≡ (2 ^ length xs - 1 - number xs) / 2 ^ k = value ∙ ap (λ (j : ℕ). j / 2 ^ k) top in
    omega (arith, e, both)

drop_shorter : (k : ℕ) (xs : List Bool) → length (drop k xs) ≤ length xs
drop_shorter k xs = simp length-drop (omega arith)

shifted_length : (xs : List Bool) (k : ℕ) (b : Bool) → length (shifted_down xs k b) ≡ length xs
shifted_length xs k b = let short = drop_shorter k xs in simp (length-append, length-replicate) (omega (arith, short))

-- `>>>` of a signed number
signed_shift : (s : Shape) (xs : List Bool) (k : ℕ) (p : Bool) → s.is_signed ≡ true → 1 ≤ s.width → length xs ≡ s.width → top_bit xs ≡ p → number (shifted_down xs k p) % 2 ^ s.width ≡ low_bits s.width (halved (integer s (number xs)) k)
signed_shift s xs k false sign some lx top =
    let e : number (shifted_down xs k false) ≡ number xs / 2 ^ k = number-zeros (drop k xs) (length xs - length (drop k xs)) ∙ number-drop k xs in
    let same : signed_number xs ≡ integer s (number xs) = signed_is s xs sign some lx in
    let plain : signed_number xs ≡ pos (number xs) = ap (λ (b : Bool). if b then pos (number xs) -ℤ pos (2 ^ length xs) else pos (number xs)) top in
    ap (λ (j : ℕ). j % 2 ^ s.width) e ∙ ap (λ (z : ℤ). low_bits s.width (halved z k)) (sym plain ∙ same)
signed_shift s xs k true sign some lx top =
    let fits : number xs < 2 ^ length xs = number-fits xs in
    let same : signed_number xs ≡ integer s (number xs) = signed_is s xs sign some lx in
    let below : pos (number xs) -ℤ pos (2 ^ length xs) ≡ negsuc (2 ^ length xs - 1 - number xs) = omega (arith, ints) in
    let negative : signed_number xs ≡ negsuc (2 ^ length xs - 1 - number xs) = ap (λ (b : Bool). if b then pos (number xs) -ℤ pos (2 ^ length xs) else pos (number xs)) top ∙ below in
    let q : ℕ = (2 ^ length xs - 1 - number xs) / 2 ^ k in
    let sum : number (shifted_down xs k true) + q + 1 ≡ 2 ^ length xs = shifted_ones xs k (length xs - length (drop k xs)) ∙ ap (λ (j : ℕ). 2 ^ j) (shifted_length xs k true) in
    let small : q % 2 ^ length xs ≡ q = mod-eq_of_lt (omega (arith, sum)) in
    let whole : number (shifted_down xs k true) % 2 ^ length xs ≡ number (shifted_down xs k true) = mod-eq_of_lt (omega (arith, sum)) in
    let answer : number (shifted_down xs k true) % 2 ^ length xs ≡ 2 ^ length xs - 1 - q % 2 ^ length xs = (whole ∙ (let r : number (shifted_down xs k true) ≡ 2 ^ length xs - 1 - q = omega (arith, sum) in r ∙ ap (λ (j : ℕ). 2 ^ length xs - 1 - j) (sym small))) in
    let P : ℕ → Type 0 = λ w. number (shifted_down xs k true) % 2 ^ w ≡ low_bits w (halved (integer s (number xs)) k) in
    subst P lx (answer ∙ ap (λ (z : ℤ). low_bits (length xs) (halved z k)) (sym negative ∙ same))

shift_kind : (s : Shape) (kind : CellKind) (b : Bool) → s.is_signed ≡ b → Some (if s.is_signed then Sshr else Shr) ≡ Some kind → kind ≡ (if b then Sshr else Shr)
shift_kind s kind b e k = some_of (if s.is_signed then Sshr else Shr) kind k ∙ ap (λ (c : Bool). if c then Sshr else Shr) e

arithmetic_cell : (kind : CellKind) (s t : Shape) (xs ys : List Bool) (b : Bool) → s.is_signed ≡ b → Some (if s.is_signed then Sshr else Shr) ≡ Some kind → 1 ≤ s.width → length xs ≡ s.width → cell_value kind (is_order kind && s.is_signed) s.width (xs ∷ ys ∷ []) ≡ low_bits s.width (halved (integer s (number xs)) (number ys))
arithmetic_cell kind s t xs ys true e k some lx = rw (shift_kind s kind true e k) (signed_shift s xs (number ys) (top_bit xs) e some lx refl)
arithmetic_cell kind s t xs ys false e k some lx = rw (shift_kind s kind false e k) (shift_right_cell s t xs ys lx ∙ sym (unsigned_halved s (number xs) (number ys) e (rw (← lx) (number-fits xs))))

-- the table of kinds, whole
pub binary_cell : (op : BinaryOperator) (kind : CellKind) (s t : Shape) (xs ys : List Bool) → binary_kind op s.is_signed ≡ Some kind → 1 ≤ s.width → length xs ≡ s.width → length ys ≡ t.width → ArePaired (sizing op) s t → cell_value kind (is_order kind && s.is_signed) (result_width (sizing op) s) (xs ∷ ys ∷ []) ≡ binary_value op s (number xs) t (number ys)
binary_cell b.Power kind s t xs ys k some lx ly p = cc
binary_cell b.Divide kind s t xs ys k some lx ly p = cc
binary_cell b.Modulus kind s t xs ys k some lx ly p = cc
binary_cell b.Multiply kind s t xs ys k some lx ly p = rw (some_of Mul kind k) (multiply_cell s t xs ys)
binary_cell b.Add kind s t xs ys k some lx ly p = rw (some_of Add kind k) (add_cell s t xs ys)
binary_cell b.Subtract kind s t xs ys k some lx ly p = rw (some_of Sub kind k) (subtract_cell s t xs ys lx (ly ∙ ap (λ (u : Shape). u.width) p))
binary_cell b.LogicalShiftLeft kind s t xs ys k some lx ly p = rw (some_of Shl kind k) (shift_left_cell s t xs ys)
binary_cell b.ArithmeticShiftLeft kind s t xs ys k some lx ly p = rw (some_of Shl kind k) (shift_left_cell s t xs ys)
binary_cell b.LogicalShiftRight kind s t xs ys k some lx ly p = rw (some_of Shr kind k) (shift_right_cell s t xs ys lx)
binary_cell b.ArithmeticShiftRight kind s t xs ys k some lx ly p = arithmetic_cell kind s t xs ys s.is_signed refl k some lx
binary_cell b.Less kind s t xs ys k some lx ly p = rw (some_of Lt kind k) (less_cell s t xs ys (is_less_both s xs ys some lx (ly ∙ ap (λ (u : Shape). u.width) p)))
binary_cell b.LessEqual kind s t xs ys k some lx ly p = rw (some_of Le kind k) (less_equal_cell s t xs ys (is_less_both s ys xs some (ly ∙ ap (λ (u : Shape). u.width) p) lx))
binary_cell b.Greater kind s t xs ys k some lx ly p = rw (some_of Gt kind k) (less_cell s t ys xs (is_less_both s ys xs some (ly ∙ ap (λ (u : Shape). u.width) p) lx))
binary_cell b.GreaterEqual kind s t xs ys k some lx ly p = rw (some_of Ge kind k) (less_equal_cell s t ys xs (is_less_both s xs ys some lx (ly ∙ ap (λ (u : Shape). u.width) p)))
binary_cell b.LogicalEquality kind s t xs ys k some lx ly p = rw (some_of Eq kind k) (equal_cell s t xs ys)
binary_cell b.CaseEquality kind s t xs ys k some lx ly p = rw (some_of Eq kind k) (equal_cell s t xs ys)
binary_cell b.LogicalInequality kind s t xs ys k some lx ly p = rw (some_of Ne kind k) (unequal_cell s t xs ys)
binary_cell b.CaseInequality kind s t xs ys k some lx ly p = rw (some_of Ne kind k) (unequal_cell s t xs ys)
binary_cell b.BitwiseAnd kind s t xs ys k some lx ly p = rw (some_of And kind k) (and_cell s t xs ys lx (ly ∙ ap (λ (u : Shape). u.width) p))
binary_cell b.BitwiseXor kind s t xs ys k some lx ly p = rw (some_of Xor kind k) (xor_cell s t xs ys lx (ly ∙ ap (λ (u : Shape). u.width) p))
binary_cell b.BitwiseXnor kind s t xs ys k some lx ly p = rw (some_of Xnor kind k) (xnor_cell s t xs ys)
binary_cell b.BitwiseOr kind s t xs ys k some lx ly p = rw (some_of Or kind k) (or_cell s t xs ys lx (ly ∙ ap (λ (u : Shape). u.width) p))
binary_cell b.LogicalAnd kind s t xs ys k some lx ly p = rw (some_of Land kind k) (and_then_cell s t xs ys)
binary_cell b.LogicalOr kind s t xs ys k some lx ly p = rw (some_of Lor kind k) (or_else_cell s t xs ys)
