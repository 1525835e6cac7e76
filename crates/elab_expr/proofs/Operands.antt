-- The operands of an operator, each in its context, and the parts of a list.
use Rattle.elab_expr.proofs.Common.{◌≡◌, ℕ, zero, suc, ◌<◌, List, [], ◌∷◌, length, get_or, sym, ◌∙◌, ap, subst, arith, ℤ, pos, ◌-ℤ◌, true, Result, Ok, Err, IfOk, Span, Bit, Expr, UnaryOperator, Shape}
use Rattle.elab_expr.proofs.Common.{Sizing, IsSized, pair_shape, left_context, right_context, operand_context, integer, window, Names, nothing, decl_low, decl_value, IsContext, sense, index_of}
use Rattle.elab_expr.proofs.Common.{constant_integer, is_empty, left_nil, right_nil, right_within, Building, store, Builds, Holds, plan, plans, all_unsupported, pick_cells, grows_not, constant_value}
use Rattle.elab_expr.proofs.Arms.{pick_cells_none}
use Rattle.elab_expr.proofs.Growing.{none_made}

pub sized_as : (s t : Shape) → s ≡ t → IsSized s → IsSized t
sized_as s t is sized = subst IsSized is sized

-- `op i`
pub operand_is : (op : UnaryOperator) (s i c l : Shape) → s ≡ i → l ≡ operand_context op s c → l ≡ operand_context op i c
operand_is op s i c l is_s is = is ∙ ap (λ (t : Shape). operand_context op t c) is_s

-- `i op j`
pub left_is : (q r : Sizing) (s t i j c l : Shape) → q ≡ r → s ≡ i → t ≡ j → l ≡ left_context q s t c → l ≡ left_context r i j c
left_is q r s t i j c l is_q is_s is_t is = is ∙ ap (λ (p : Sizing). left_context p s t c) is_q ∙ ap (λ (x : Shape). left_context r x t c) is_s ∙ ap (λ (x : Shape). left_context r i x c) is_t

pub right_is : (q r : Sizing) (s t i j c l : Shape) → q ≡ r → s ≡ i → t ≡ j → l ≡ right_context q s t c → l ≡ right_context r i j c
right_is q r s t i j c l is_q is_s is_t is = is ∙ ap (λ (p : Sizing). right_context p s t c) is_q ∙ ap (λ (x : Shape). right_context r x t c) is_s ∙ ap (λ (x : Shape). right_context r i x c) is_t

pub right_fits : (r : Sizing) (i j c l : Shape) → l ≡ right_context r i j c → IsSized i → IsSized j → IsContext (pair_shape r i j) c → IsContext j l
right_fits r i j c l is si sj at = subst (IsContext j) (sym is) (right_within r i j c si sj at)

-- a part of a list that is supported
pub element_supported : (names : Names) (es : List Expr) (i : ℕ) (x : Expr) → x ≡ get_or es i x → i < length es → all_unsupported (plans names es) ≡ [] → (plan names x).unsupported ≡ []
element_supported names [] i x is h none = absurd (omega arith)
element_supported names (e ∷ es) zero x is h none = ap (λ (y : Expr). (plan names y).unsupported) is ∙ left_nil _ _ none
element_supported names (e ∷ es) (suc i) x is h none = element_supported names es i x is (omega arith) (right_nil _ _ none)

-- what follows from two facts of what a call gives
pub both_ok : {A E : Type 0} (r : Result A E) (P Q R : A → Type 0) → ((a : A) → P a → Q a → R a) → IfOk r P → IfOk r Q → IfOk r R
both_ok (Ok a) P Q R f p q = f a p q
both_ok (Err e) P Q R f p q = tt

-- a select from a constant place on
pub place_built : (names : Names) (name : List ℕ) (x : Expr) (span : Span) (size v : ℕ) (z : ℤ) (b : Building) (bits : List Bit) → is_empty (sense names x).signals ≡ true → z ≡ constant_integer (sense names x) → Holds b bits v (λ signals. window (z -ℤ pos (decl_low (names name))) size (decl_value signals (names name))) → Builds b b bits v (λ signals. window (index_of signals (sense names x) -ℤ pos (decl_low (names name))) size (decl_value signals (names name))) (pick_cells names name span (plan names x) size)
place_built names name x span size v z b bits quiet is h = record {
  grows = grows_not b;
  cells = none_made b ∙ sym (pick_cells_none names name x span size quiet);
  long = h.long;
  below = h.below;
  value_is = λ nets runs. h.value_is nets ∙ ap (λ (k : ℤ). window (k -ℤ pos (decl_low (names name))) size (decl_value (store b nets) (names name))) (is ∙ ap (integer (sense names x).shape) (constant_value names x nothing (store b nets) (sense names x).shape quiet));
}
