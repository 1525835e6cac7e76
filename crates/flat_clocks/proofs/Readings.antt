-- What an expression reads of each production, from what its parts read.
use Rattle.flat_clocks.proofs.Common.{◌≡◌, List, [], ◌∷◌, ◌++◌, map, refl, sym, ap, ◌∙◌, flat_map, Span, Number, Identifier, UnaryOperator, BinaryOperator, Expr, LeftSide, Refusal, ClockNames, Read}
use Rattle.flat_clocks.proofs.Common.{read, expr_step, expr_reads, form_reads, values_read, lefts_read, all_read, left_reads, left_step}
use Rattle.vlog_syntax.specs.declared.expr.Expr.TheOpen as e
use Rattle.vlog_syntax.specs.declared.expr.Expr.TheVariants as v
use Rattle.vlog_syntax.specs.declared.expr.Expr.TheFolds.{fold-roll-Expr}
use Rattle.vlog_syntax.specs.declared.left_side.LeftSide.TheOpen as l
use Rattle.vlog_syntax.specs.declared.left_side.LeftSide.TheVariants as lv
use Rattle.vlog_syntax.specs.declared.left_side.LeftSide.TheFolds.{fold-roll-LeftSide}

-- several expressions, and several left sides

pub values_are : (is : ClockNames) (xs : List Expr) → values_read (map (read is) xs) ≡ flat_map (expr_reads is) xs
values_are is [] = refl
values_are is (x ∷ xs) = ap (λ (l : List Refusal). expr_reads is x ++ l) (values_are is xs)

pub lefts_are : (is : ClockNames) (xs : List Expr) → lefts_read (map (read is) xs) ≡ flat_map (form_reads is) xs
lefts_are is [] = refl
lefts_are is (x ∷ xs) = ap (λ (l : List Refusal). form_reads is x ++ l) (lefts_are is xs)

pub all_are : (is : ClockNames) (xs : List LeftSide) → all_read (map (left_reads is) xs) ≡ flat_map (left_reads is) xs
all_are is [] = refl
all_are is (x ∷ xs) = ap (λ (l : List Refusal). left_reads is x ++ l) (all_are is xs)

module _ (is : ClockNames) where
  pub read_number : (n : Number) → read is (v.Number n) ≡ expr_step is (e.Number n)
  read_number n = ap (read is) (sym (v.rolls-Number n)) ∙ fold-roll-Expr Read (expr_step is) (e.Number n)

  pub read_name : (n : Identifier) → read is (v.Name n) ≡ expr_step is (e.Name n)
  read_name n = ap (read is) (sym (v.rolls-Name n)) ∙ fold-roll-Expr Read (expr_step is) (e.Name n)

  pub read_bit : (n : Identifier) (s : Span) (i : Expr) → read is (v.BitSelect n s i) ≡ expr_step is (e.BitSelect n s (read is i))
  read_bit n s i = ap (read is) (sym (v.rolls-BitSelect n s i)) ∙ fold-roll-Expr Read (expr_step is) (e.BitSelect n s i)

  pub read_part : (n : Identifier) (s : Span) (m : Expr) (b : Expr) → read is (v.PartSelect n s m b) ≡ expr_step is (e.PartSelect n s (read is m) (read is b))
  read_part n s m b = ap (read is) (sym (v.rolls-PartSelect n s m b)) ∙ fold-roll-Expr Read (expr_step is) (e.PartSelect n s m b)

  pub read_indexed : (n : Identifier) (s : Span) (b : Expr) (w : Expr) → read is (v.IndexedPartSelect n s b w) ≡ expr_step is (e.IndexedPartSelect n s (read is b) (read is w))
  read_indexed n s b w = ap (read is) (sym (v.rolls-IndexedPartSelect n s b w)) ∙ fold-roll-Expr Read (expr_step is) (e.IndexedPartSelect n s b w)

  pub read_parenthesized : (s : Span) (i : Expr) → read is (v.Parenthesized s i) ≡ expr_step is (e.Parenthesized s (read is i))
  read_parenthesized s i = ap (read is) (sym (v.rolls-Parenthesized s i)) ∙ fold-roll-Expr Read (expr_step is) (e.Parenthesized s i)

  pub read_unary : (s : Span) (op : UnaryOperator) (i : Expr) → read is (v.Unary s op i) ≡ expr_step is (e.Unary s op (read is i))
  read_unary s op i = ap (read is) (sym (v.rolls-Unary s op i)) ∙ fold-roll-Expr Read (expr_step is) (e.Unary s op i)

  pub read_binary : (s : Span) (op : BinaryOperator) (i : Expr) (j : Expr) → read is (v.Binary s op i j) ≡ expr_step is (e.Binary s op (read is i) (read is j))
  read_binary s op i j = ap (read is) (sym (v.rolls-Binary s op i j)) ∙ fold-roll-Expr Read (expr_step is) (e.Binary s op i j)

  pub read_conditional : (s : Span) (x : Expr) (i : Expr) (j : Expr) → read is (v.Conditional s x i j) ≡ expr_step is (e.Conditional s (read is x) (read is i) (read is j))
  read_conditional s x i j = ap (read is) (sym (v.rolls-Conditional s x i j)) ∙ fold-roll-Expr Read (expr_step is) (e.Conditional s x i j)

  pub read_concatenation : (s : Span) (ps : List Expr) → read is (v.Concatenation s ps) ≡ expr_step is (e.Concatenation s (map (read is) ps))
  read_concatenation s ps = ap (read is) (sym (v.rolls-Concatenation s ps)) ∙ fold-roll-Expr Read (expr_step is) (e.Concatenation s ps)

  pub read_multiple : (s : Span) (k : Expr) (ps : List Expr) → read is (v.MultipleConcatenation s k ps) ≡ expr_step is (e.MultipleConcatenation s (read is k) (map (read is) ps))
  read_multiple s k ps = ap (read is) (sym (v.rolls-MultipleConcatenation s k ps)) ∙ fold-roll-Expr Read (expr_step is) (e.MultipleConcatenation s k ps)

  pub read_call : (n : Identifier) (ps : List Expr) → read is (v.SystemFunctionCall n ps) ≡ expr_step is (e.SystemFunctionCall n (map (read is) ps))
  read_call n ps = ap (read is) (sym (v.rolls-SystemFunctionCall n ps)) ∙ fold-roll-Expr Read (expr_step is) (e.SystemFunctionCall n ps)

  pub left_name : (n : Identifier) → left_reads is (lv.Name n) ≡ left_step is (l.Name n)
  left_name n = ap (left_reads is) (sym (lv.rolls-Name n)) ∙ fold-roll-LeftSide (List Refusal) (left_step is) (l.Name n)

  pub left_bit : (n : Identifier) (s : Span) (i : Expr) → left_reads is (lv.BitSelect n s i) ≡ left_step is (l.BitSelect n s i)
  left_bit n s i = ap (left_reads is) (sym (lv.rolls-BitSelect n s i)) ∙ fold-roll-LeftSide (List Refusal) (left_step is) (l.BitSelect n s i)

  pub left_part : (n : Identifier) (s : Span) (m : Expr) (b : Expr) → left_reads is (lv.PartSelect n s m b) ≡ left_step is (l.PartSelect n s m b)
  left_part n s m b = ap (left_reads is) (sym (lv.rolls-PartSelect n s m b)) ∙ fold-roll-LeftSide (List Refusal) (left_step is) (l.PartSelect n s m b)

  pub left_indexed : (n : Identifier) (s : Span) (b : Expr) (w : Expr) → left_reads is (lv.IndexedPartSelect n s b w) ≡ left_step is (l.IndexedPartSelect n s b w)
  left_indexed n s b w = ap (left_reads is) (sym (lv.rolls-IndexedPartSelect n s b w)) ∙ fold-roll-LeftSide (List Refusal) (left_step is) (l.IndexedPartSelect n s b w)

  pub left_concatenation : (s : Span) (ps : List LeftSide) → left_reads is (lv.Concatenation s ps) ≡ left_step is (l.Concatenation s (map (left_reads is) ps))
  left_concatenation s ps = ap (left_reads is) (sym (lv.rolls-Concatenation s ps)) ∙ fold-roll-LeftSide (List Refusal) (left_step is) (l.Concatenation s ps)
