-- Contexts of operands, and values that fit, in the terms of the calls.
use Rattle.vlog_meaning.proofs.Common.{◌≡◌, ℕ, zero, suc, ◌+◌, ◌*◌, ◌<◌, ◌≤◌, ◌^◌, List, [], ◌∷◌, get_or, length, drop, take, refl, sym, ap, ◌∙◌, arith, subst, pow-add, Span, UnaryOperator}
use Rattle.vlog_meaning.proofs.Common.{BinaryOperator, Expr, Shape, Sizing, IsSized, ArePaired, sizing, pair_shape, left_context, right_context, result_width, unary_shape, operand_context}
use Rattle.vlog_meaning.proofs.Common.{unary_value, binary_value, Names, Sense, sense, senses, IsContext, total_width}
use Rattle.vlog_syntax.specs.declared.expr.Expr.TheVariants as v
use Rattle.vlog_meaning.specs.declared.operator.Sizing.TheVariants.{Common, Left, Compared, Apart}
use Rattle.vlog_meaning.proofs.Steps as step
use Rattle.vlog_meaning.proofs.Contexts.{left_within, right_within, joint_left, joint_right, pair_fits, binary_fits, unary_fits, unary_some, are_paired, wider}

pub fits_own : (names : Names) (e : Expr) (x : Sense) (c : Shape) (n : ℕ) → sense names e ≡ x → IsContext (sense names e).shape c → n < 2 ^ x.shape.width → n < 2 ^ c.width
fits_own names e x c n is at small = wider n x.shape.width c.width small (subst (λ (y : Sense). y.shape.width ≤ c.width) is at.wide)

-- the operands of `i op j`, in the context c
module _ (names : Names) (e : Expr) (s : Span) (op : BinaryOperator) (i j : Expr) (c si sj : Shape) (r : Sizing) (is : e ≡ v.Binary s op i j) (at : IsContext (sense names e).shape c) (is_r : r ≡ sizing op) (is_i : si ≡ (sense names i).shape) (is_j : sj ≡ (sense names j).shape) (sized_i : IsSized si) (sized_j : IsSized sj) where
  whole_context : IsContext (pair_shape r si sj) c
  whole_context = rw (is_r, is_i, is_j) (subst (λ (y : Sense). IsContext y.shape c) (ap (sense names) is ∙ step.sense_binary names s op i j) at)

  pub left_at : (l : Shape) → l ≡ left_context r si sj c → IsContext (sense names i).shape l
  left_at l is_l = rw (is_l, ← is_i) (left_within r si sj c sized_i sized_j whole_context)

  pub right_at : (l : Shape) → l ≡ right_context r si sj c → IsContext (sense names j).shape l
  right_at l is_l = rw (is_l, ← is_j) (right_within r si sj c sized_i sized_j whole_context)

  some_left : 1 ≤ (left_context r si sj c).width
  some_left = let w = left_within r si sj c sized_i sized_j whole_context in omega (arith, w.wide, sized_i.some)

  pair_some : (k : Sizing) → 1 ≤ (pair_shape k si sj).width
  pair_some Common = let a = sized_i.some in omega arith
  pair_some Left = sized_i.some
  pair_some Compared = omega arith
  pair_some Apart = omega arith

  pub pair_result : (l t : Shape) (a b n : ℕ) → l ≡ left_context r si sj c → t ≡ right_context r si sj c → a < 2 ^ l.width → b < 2 ^ t.width → n ≡ binary_value op l a t b → n < 2 ^ c.width
  pair_result l t a b n is_l is_t small_a small_b is_n =
      let some_c : 1 ≤ c.width = omega (arith, pair_some r, whole_context.wide) in
      let paired : ArePaired (sizing op) (left_context r si sj c) (right_context r si sj c) = rw (← is_r) (are_paired r si sj c) in
      let small : binary_value op (left_context r si sj c) a (right_context r si sj c) b < 2 ^ result_width (sizing op) (left_context r si sj c) = binary_fits op (left_context r si sj c) (right_context r si sj c) a b some_left paired (rw is_l at small_a) (rw is_t at small_b) in
      pair_fits r si sj c n some_c (rw (is_n, is_l, is_t) (let P : Sizing → Type 0 = λ k. binary_value op (left_context r si sj c) a (right_context r si sj c) b < 2 ^ result_width k (left_context r si sj c) in subst P (sym is_r) small))

-- the operand of `op i`
pub unary_result : (names : Names) (e : Expr) (s : Span) (op : UnaryOperator) (i : Expr) (c si l : Shape) (a n : ℕ) → e ≡ v.Unary s op i → IsContext (sense names e).shape c → si ≡ (sense names i).shape → IsSized si → l ≡ operand_context op si c → a < 2 ^ l.width → n ≡ unary_value op l a → n < 2 ^ c.width
unary_result names e s op i c si l a n is at is_i sized is_l small is_n =
    let whole : IsContext (unary_shape op si) c = rw is_i (subst (λ (y : Sense). IsContext y.shape c) (ap (sense names) is ∙ step.sense_unary names s op i) at) in
    let some : 1 ≤ (unary_shape op si).width = unary_some op si sized in
    rw (is_n, is_l) (unary_fits op si c a (omega (arith, whole.wide)) (rw is_l at small))

-- both choices of a conditional
pub yes_at : (names : Names) (e : Expr) (s : Span) (x i j : Expr) (c : Shape) → e ≡ v.Conditional s x i j → IsContext (sense names e).shape c → IsContext (sense names i).shape c
yes_at names e s x i j c is at = joint_left (sense names i).shape (sense names j).shape c (subst (λ (y : Sense). IsContext y.shape c) (ap (sense names) is ∙ step.sense_conditional names s x i j) at)

pub no_at : (names : Names) (e : Expr) (s : Span) (x i j : Expr) (c : Shape) → e ≡ v.Conditional s x i j → IsContext (sense names e).shape c → IsContext (sense names j).shape c
no_at names e s x i j c is at = joint_right (sense names i).shape (sense names j).shape c (subst (λ (y : Sense). IsContext y.shape c) (ap (sense names) is ∙ step.sense_conditional names s x i j) at)

-- one part more of a concatenation
pub parts_drop : (names : Names) (es : List Expr) (k : ℕ) (x : Expr) → x ≡ get_or es k x → k < length es → drop k es ≡ x ∷ drop (suc k) es
parts_drop names [] k x is h = absurd (omega arith)
parts_drop names (e ∷ es) zero x is h = ap (λ (y : Expr). y ∷ es) (sym is)
parts_drop names (e ∷ es) (suc k) x is h = parts_drop names es k x is (omega arith)

pub total_take : (names : Names) (es : List Expr) (k : ℕ) (x : Expr) → x ≡ get_or es k x → k < length es → total_width (senses names (take (suc k) es)) ≡ total_width (senses names (take k es)) + (sense names x).shape.width
total_take names [] k x is h = absurd (omega arith)
total_take names (e ∷ es) zero x is h = ap (λ (y : Expr). (sense names y).shape.width + 0) (sym is) ∙ (omega arith)
total_take names (e ∷ es) (suc k) x is h = let more = total_take names es k x is (omega arith) in omega (arith, more)

pub total_parts : (names : Names) (es : List Expr) (k : ℕ) → total_width (senses names (take k es)) + total_width (senses names (drop k es)) ≡ total_width (senses names es)
total_parts names [] zero = refl
total_parts names [] (suc k) = refl
total_parts names (e ∷ es) zero = omega arith
total_parts names (e ∷ es) (suc k) = let more = total_parts names es k in omega (arith, more)

-- one part more of the value of a concatenation
pub joined_step : (value k w v rest total : ℕ) → (value * 2 ^ w + v) * 2 ^ rest + total ≡ value * 2 ^ (w + rest) + (v * 2 ^ rest + total)
joined_step value k w v rest total =
    let e : 2 ^ (w + rest) ≡ 2 ^ w * 2 ^ rest = pow-add 2 w rest in
    rw e (grind (arith))
