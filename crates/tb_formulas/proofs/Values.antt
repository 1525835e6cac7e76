-- Numbers that fit, and what formulas come to.
use Rattle.tb_formulas.proofs.Common.{◌≡◌, ℕ, zero, suc, ◌+◌, ◌*◌, ◌/◌, ◌%◌, ◌<◌, ◌≤◌, ◌^◌, Bool, true, false, ℤ, pos, ◌==◌, List, [], ◌∷◌, map, length, get_or, slice_index, refl, sym, ap, ◌∙◌, arith}
use Rattle.tb_formulas.proofs.Common.{subst, if◌then◌else◌, ◌-ℤ◌, mod_below, pow_pos, Word, UnaryOperator, BinaryOperator, Shape, integer, extended, window, Store, store_of, repeated, wider}
use Rattle.tb_formulas.proofs.Common.{window_fits, unary_fits, binary_fits, Formula, Part, signed, formula_value}
use Rattle.std.proofs.Math.Nat.{mod-eq_of_lt}
use Rattle.std.proofs.lemmas.Bool.Decides.{nat_tests}
use Rattle.vlog_meaning.specs.Operators.{IsSized, ArePaired, bit, sizing, result_width, is_reduction, unary_shape, operand_context, unary_value, binary_value}
use Rattle.vlog_meaning.proofs.Joins.{joined_fits, shifted_whole}
use Rattle.tb_formulas.specs.declared.formula.Formula.TheOpen as o
use Rattle.tb_formulas.specs.declared.formula.Formula.TheVariants as v
use Rattle.tb_formulas.proofs.Layers.{valued}

-- Words.

pub held_bits : (ws : List Word) (k : ℕ) (w : Word) → w ≡ get_or ws k w → k < length ws → w.bits ≡ store_of ws k
held_bits [] k w is h = absurd (omega (arith, h))
held_bits (x ∷ ws) zero w is h = ap (λ (y : Word). y.bits) is
held_bits (x ∷ ws) (suc k) w is h = held_bits ws k w is (omega arith)

pub held_width : (ws : List Word) (k : ℕ) (w : Word) → w ≡ get_or ws k w → k < length ws → w.width ≡ slice_index (map (λ (y : Word). y.width) ws) k
held_width [] k w is h = absurd (omega (arith, h))
held_width (x ∷ ws) zero w is h = ap (λ (y : Word). y.width) is
held_width (x ∷ ws) (suc k) w is h = held_width ws k w is (omega arith)

pub as_long : (ws : List Word) (k : ℕ) → k < length (map (λ (y : Word). y.width) ws) → k < length ws
as_long [] k h = h
as_long (x ∷ ws) zero h = omega arith
as_long (x ∷ ws) (suc k) h = let more = as_long ws k (omega arith) in omega arith

-- Numbers that fit.

pub cut_fits : (r x w n : ℕ) → r ≡ x % 2 ^ w → w ≤ n → r < 2 ^ n
cut_fits r x w n is le = wider r w n (rw is (mod_below x (2 ^ w) (pow_pos w))) le

pub window_within : (r : ℕ) (z : ℤ) (w x n : ℕ) → r ≡ window z w x → w ≤ n → r < 2 ^ n
window_within r z w x n is le = wider r w n (rw is (window_fits z w x)) le

operand_is : (b : Bool) (s : Shape) → (if b then s else (if b then bit else s)) ≡ s
operand_is true s = refl
operand_is false s = refl

reduced_some : (b : Bool) (s : Shape) → 1 ≤ s.width → 1 ≤ (if b then bit else s).width
reduced_some true s some = omega arith
reduced_some false s some = some

pub unary_within : (op : UnaryOperator) (s : Shape) (x r n : ℕ) → IsSized s → (unary_shape op s).width ≤ n → x < 2 ^ s.width → r ≡ unary_value op s x → r < 2 ^ n
unary_within op s x r n sized le small is =
    let same : operand_context op s (unary_shape op s) ≡ s = operand_is (is_reduction op) s in
    let some : 1 ≤ (unary_shape op s).width = reduced_some (is_reduction op) s sized.some in
    let fit = unary_fits op s (unary_shape op s) x some (subst (λ (t : Shape). x < 2 ^ t.width) (sym same) small) in
    let here : unary_value op s x < 2 ^ (unary_shape op s).width = subst (λ (t : Shape). unary_value op t x < 2 ^ (unary_shape op s).width) same fit in
    wider r (unary_shape op s).width n (rw is here) le

pub binary_within : (op : BinaryOperator) (s t : Shape) (x y r n : ℕ) → IsSized s → ArePaired (sizing op) s t → result_width (sizing op) s ≤ n → x < 2 ^ s.width → y < 2 ^ t.width → r ≡ binary_value op s x t y → r < 2 ^ n
binary_within op s t x y r n sized paired le small_x small_y is = wider r (result_width (sizing op) s) n (rw is (binary_fits op s t x y sized.some paired small_x small_y)) le

pub joined_within : (x k w y n : ℕ) → k + w ≤ 128 → k + w ≤ n → x < 2 ^ k → y < 2 ^ w → (x * 2 ^ w % 2 ^ 128 ≡ x * 2 ^ w) × (x * 2 ^ w + y < 2 ^ n)
joined_within x k w y n narrow le small_x small_y = (shifted_whole x k w small_x narrow, wider (x * 2 ^ w + y) (k + w) n (joined_fits x k w y small_x small_y) le)

-- What formulas come to.

some_test : (x : ℕ) → (x ≡ 0 → ⊥) → (x == 0) ≡ false
some_test zero h = absurd (h refl)
some_test (suc x) h = grind (arith, nat_tests)

module _ (f : Formula) (store : Store) where
  pub says_number : (bits : ℕ) → f ≡ v.Number bits → bits ≡ formula_value f store
  says_number bits is = sym (valued (o.Number bits) f store (v.rolls-Number bits ∙ sym is))

  pub says_signal : (s w r n : ℕ) → f ≡ v.Signal s w → r ≡ store s → r < 2 ^ n → n ≤ w → r ≡ formula_value f store
  says_signal s w r n is one small le =
      sym (mod-eq_of_lt (wider r n w small le)) ∙ ap (λ (x : ℕ). x % 2 ^ w) one ∙ sym (valued (o.Signal s w) f store (v.rolls-Signal s w ∙ sym is))

  pub says_signed : (s from to x r : ℕ) → f ≡ v.SignedSignal s from to → x ≡ store s → r ≡ extended (signed from) to x → r ≡ formula_value f store
  says_signed s from to x r is one so = so ∙ ap (extended (signed from) to) one ∙ sym (valued (o.SignedSignal s from to) f store (v.rolls-SignedSignal s from to ∙ sym is))

  pub says_slice : (s at w x r : ℕ) → f ≡ v.Slice s at w → x ≡ store s → r ≡ x / 2 ^ at % 2 ^ w → r ≡ formula_value f store
  says_slice s at w x r is one so = so ∙ ap (λ (y : ℕ). y / 2 ^ at % 2 ^ w) one ∙ sym (valued (o.Slice s at w) f store (v.rolls-Slice s at w ∙ sym is))

  pub says_select : (s : ℕ) (p : Part) (g i : Formula) (x y r : ℕ) → f ≡ v.Select s p i → g ≡ i → x ≡ store s → y ≡ formula_value g store → r ≡ window (integer p.index y -ℤ pos p.low) p.width x → r ≡ formula_value f store
  says_select s p g i x y r is got held one so =
      so ∙ ap (window (integer p.index y -ℤ pos p.low) p.width) held ∙ ap (λ (z : ℕ). window (integer p.index z -ℤ pos p.low) p.width (store s)) (one ∙ ap (λ (h : Formula). formula_value h store) got) ∙ sym (valued (o.Select s p i) f store (v.rolls-Select s p i ∙ sym is))

  pub says_number_select : (b : ℕ) (p : Part) (g i : Formula) (y r : ℕ) → f ≡ v.NumberSelect b p i → g ≡ i → y ≡ formula_value g store → r ≡ window (integer p.index y -ℤ pos p.low) p.width b → r ≡ formula_value f store
  says_number_select b p g i y r is got one so =
      so ∙ ap (λ (z : ℕ). window (integer p.index z -ℤ pos p.low) p.width b) (one ∙ ap (λ (h : Formula). formula_value h store) got) ∙ sym (valued (o.NumberSelect b p i) f store (v.rolls-NumberSelect b p i ∙ sym is))

  pub says_extended : (s : Shape) (to : ℕ) (g i : Formula) (x r : ℕ) → f ≡ v.Extended s to i → g ≡ i → x ≡ formula_value g store → r ≡ extended s to x → r ≡ formula_value f store
  says_extended s to g i x r is got one so =
      so ∙ ap (extended s to) (one ∙ ap (λ (h : Formula). formula_value h store) got) ∙ sym (valued (o.Extended s to i) f store (v.rolls-Extended s to i ∙ sym is))

  pub says_unary : (op : UnaryOperator) (s : Shape) (g i : Formula) (x r : ℕ) → f ≡ v.Unary op s i → g ≡ i → x ≡ formula_value g store → r ≡ unary_value op s x → r ≡ formula_value f store
  says_unary op s g i x r is got one so =
      so ∙ ap (unary_value op s) (one ∙ ap (λ (h : Formula). formula_value h store) got) ∙ sym (valued (o.Unary op s i) f store (v.rolls-Unary op s i ∙ sym is))

  pub says_binary : (op : BinaryOperator) (s t : Shape) (g h i j : Formula) (x y r : ℕ) → f ≡ v.Binary op s t i j → g ≡ i → h ≡ j → x ≡ formula_value g store → y ≡ formula_value h store → r ≡ binary_value op s x t y → r ≡ formula_value f store
  says_binary op s t g h i j x y r is got got_too one two so =
      so ∙ ap (λ (z : ℕ). binary_value op s z t y) (one ∙ ap (λ (k : Formula). formula_value k store) got) ∙ ap (binary_value op s (formula_value i store) t) (two ∙ ap (λ (k : Formula). formula_value k store) got_too) ∙ sym (valued (o.Binary op s t i j) f store (v.rolls-Binary op s t i j ∙ sym is))

  pub says_no : (i j k g h : Formula) (x r : ℕ) → f ≡ v.Conditional i j k → g ≡ i → h ≡ k → x ≡ formula_value g store → x ≡ 0 → r ≡ formula_value h store → r ≡ formula_value f store
  says_no i j k g h x r is got got_too test none so =
      let zero_is : formula_value i store ≡ 0 = ap (λ (l : Formula). formula_value l store) (sym got) ∙ sym test ∙ none in
      let all = valued (o.Conditional i j k) f store (v.rolls-Conditional i j k ∙ sym is) in
      so ∙ ap (λ (l : Formula). formula_value l store) got_too ∙ sym (all ∙ ap (λ (z : ℕ). if z == 0 then formula_value k store else formula_value j store) zero_is)

  pub says_yes : (i j k g h : Formula) (x r : ℕ) → f ≡ v.Conditional i j k → g ≡ i → h ≡ j → x ≡ formula_value g store → (x ≡ 0 → ⊥) → r ≡ formula_value h store → r ≡ formula_value f store
  says_yes i j k g h x r is got got_too test some so =
      let is_some : (formula_value i store == 0) ≡ false = ap (λ (z : ℕ). z == 0) (ap (λ (l : Formula). formula_value l store) (sym got) ∙ sym test) ∙ some_test x some in
      let all = valued (o.Conditional i j k) f store (v.rolls-Conditional i j k ∙ sym is) in
      so ∙ ap (λ (l : Formula). formula_value l store) got_too ∙ sym (all ∙ ap (λ (b : Bool). if b then formula_value k store else formula_value j store) is_some)

  pub says_joined : (i : Formula) (w : ℕ) (j g h : Formula) (x y r : ℕ) → f ≡ v.Joined i w j → g ≡ i → h ≡ j → x ≡ formula_value g store → y ≡ formula_value h store → r ≡ x * 2 ^ w + y → r ≡ formula_value f store
  says_joined i w j g h x y r is got got_too one two so =
      so ∙ ap (λ (z : ℕ). z * 2 ^ w + y) (one ∙ ap (λ (k : Formula). formula_value k store) got) ∙ ap (λ (z : ℕ). formula_value i store * 2 ^ w + z) (two ∙ ap (λ (k : Formula). formula_value k store) got_too) ∙ sym (valued (o.Joined i w j) f store (v.rolls-Joined i w j ∙ sym is))

  pub says_repeated : (count w : ℕ) (g i : Formula) (x r : ℕ) → f ≡ v.Repeated count w i → g ≡ i → x ≡ formula_value g store → r ≡ repeated count w x → r ≡ formula_value f store
  says_repeated count w g i x r is got one so =
      so ∙ ap (repeated count w) (one ∙ ap (λ (h : Formula). formula_value h store) got) ∙ sym (valued (o.Repeated count w i) f store (v.rolls-Repeated count w i ∙ sym is))
