-- The first read in an expression or a left side of each production, from those in its parts.
use Rattle.flat_clocks.proofs.Common.{◌≡◌, List, ◌++◌, sym, ap, ◌∙◌, subst, Option, None, flat_map, Span, Number, Identifier, UnaryOperator, BinaryOperator, Expr, LeftSide, Refusal, IsFirst}
use Rattle.flat_clocks.proofs.Common.{ClockNames, Read, read, name_reads, expr_reads, form_reads, left_reads}
use Rattle.vlog_syntax.specs.declared.expr.Expr.TheVariants as v
use Rattle.vlog_syntax.specs.declared.left_side.LeftSide.TheVariants as lv
use Rattle.flat_clocks.proofs.Firsts.{Joins, two, same, moved}
use Rattle.flat_clocks.proofs.Readings as r

-- two expressions that are taken out of their boxes
pub moved_pair : (is : ClockNames) (p q i j : Expr) (o : Option Refusal) → p ≡ i → q ≡ j → IsFirst (expr_reads is p ++ expr_reads is q) o → IsFirst (expr_reads is i ++ expr_reads is j) o
moved_pair is p q i j o e f h = subst (λ (z : Expr). IsFirst (expr_reads is z ++ expr_reads is j) o) e (subst (λ (z : Expr). IsFirst (expr_reads is p ++ expr_reads is z) o) f h)

valued : (is : ClockNames) (x y : Expr) (a : Read) → x ≡ y → read is y ≡ a → expr_reads is x ≡ a.value
valued is x y a e f = ap (λ (a : Read). a.value) (ap (read is) e ∙ f)

placed : (is : ClockNames) (x y : Expr) (a : Read) → x ≡ y → read is y ≡ a → form_reads is x ≡ a.left
placed is x y a e f = ap (λ (a : Read). a.left) (ap (read is) e ∙ f)

-- expressions
module _ (is : ClockNames) (x : Expr) (o : Option Refusal) where
  pub number_first : (n : Number) → x ≡ v.Number n → o ≡ None → IsFirst (expr_reads is x) o
  number_first n e none = subst (λ (z : Option Refusal). IsFirst (expr_reads is x) z) (sym none) (valued is x (v.Number n) _ e (r.read_number is n))

  pub name_first : (n : Identifier) → x ≡ v.Name n → IsFirst (name_reads is n) o → IsFirst (expr_reads is x) o
  name_first n e h = same _ _ o (valued is x (v.Name n) _ e (r.read_name is n)) h

  pub bit_first : (n : Identifier) (s : Span) (i p : Expr) (a b : Option Refusal) → x ≡ v.BitSelect n s i → p ≡ i → IsFirst (name_reads is n) a → IsFirst (expr_reads is p) b → Joins a b o → IsFirst (expr_reads is x) o
  bit_first n s i p a b e f h k joins = two _ (name_reads is n) (expr_reads is i) a b o (valued is x (v.BitSelect n s i) _ e (r.read_bit is n s i)) joins h (moved (expr_reads is) p i b f k)

  pub part_first : (n : Identifier) (s : Span) (i j p q : Expr) (a b : Option Refusal) → x ≡ v.PartSelect n s i j → p ≡ i → q ≡ j → IsFirst (name_reads is n) a → IsFirst (expr_reads is p ++ expr_reads is q) b → Joins a b o → IsFirst (expr_reads is x) o
  part_first n s i j p q a b e f g h k joins = two _ (name_reads is n) (expr_reads is i ++ expr_reads is j) a b o (valued is x (v.PartSelect n s i j) _ e (r.read_part is n s i j)) joins h (moved_pair is p q i j b f g k)

  pub indexed_first : (n : Identifier) (s : Span) (i j p q : Expr) (a b : Option Refusal) → x ≡ v.IndexedPartSelect n s i j → p ≡ i → q ≡ j → IsFirst (name_reads is n) a → IsFirst (expr_reads is p ++ expr_reads is q) b → Joins a b o → IsFirst (expr_reads is x) o
  indexed_first n s i j p q a b e f g h k joins = two _ (name_reads is n) (expr_reads is i ++ expr_reads is j) a b o (valued is x (v.IndexedPartSelect n s i j) _ e (r.read_indexed is n s i j)) joins h (moved_pair is p q i j b f g k)

  pub inner_first : (s : Span) (i p : Expr) → x ≡ v.Parenthesized s i → p ≡ i → IsFirst (expr_reads is p) o → IsFirst (expr_reads is x) o
  inner_first s i p e f h = same _ _ o (valued is x (v.Parenthesized s i) _ e (r.read_parenthesized is s i)) (moved (expr_reads is) p i o f h)

  pub unary_first : (s : Span) (op : UnaryOperator) (i p : Expr) → x ≡ v.Unary s op i → p ≡ i → IsFirst (expr_reads is p) o → IsFirst (expr_reads is x) o
  unary_first s op i p e f h = same _ _ o (valued is x (v.Unary s op i) _ e (r.read_unary is s op i)) (moved (expr_reads is) p i o f h)

  pub binary_first : (s : Span) (op : BinaryOperator) (i j p q : Expr) → x ≡ v.Binary s op i j → p ≡ i → q ≡ j → IsFirst (expr_reads is p ++ expr_reads is q) o → IsFirst (expr_reads is x) o
  binary_first s op i j p q e f g h = same _ _ o (valued is x (v.Binary s op i j) _ e (r.read_binary is s op i j)) (moved_pair is p q i j o f g h)

  pub conditional_first : (s : Span) (k i j m p q : Expr) (a b : Option Refusal) → x ≡ v.Conditional s k i j → m ≡ k → p ≡ i → q ≡ j → IsFirst (expr_reads is m) a → IsFirst (expr_reads is p ++ expr_reads is q) b → Joins a b o → IsFirst (expr_reads is x) o
  conditional_first s k i j m p q a b e c f g h l joins = two _ (expr_reads is k) (expr_reads is i ++ expr_reads is j) a b o (valued is x (v.Conditional s k i j) _ e (r.read_conditional is s k i j)) joins (moved (expr_reads is) m k a c h) (moved_pair is p q i j b f g l)

  pub concatenation_first : (s : Span) (ps qs : List Expr) → x ≡ v.Concatenation s ps → qs ≡ ps → IsFirst (flat_map (expr_reads is) qs) o → IsFirst (expr_reads is x) o
  concatenation_first s ps qs e f h = same _ _ o (valued is x (v.Concatenation s ps) _ e (r.read_concatenation is s ps) ∙ r.values_are is ps) (moved (flat_map (expr_reads is)) qs ps o f h)

  pub multiple_first : (s : Span) (k m : Expr) (ps qs : List Expr) (a b : Option Refusal) → x ≡ v.MultipleConcatenation s k ps → m ≡ k → qs ≡ ps → IsFirst (expr_reads is m) a → IsFirst (flat_map (expr_reads is) qs) b → Joins a b o → IsFirst (expr_reads is x) o
  multiple_first s k m ps qs a b e c f h l joins = two _ (expr_reads is k) (flat_map (expr_reads is) ps) a b o (valued is x (v.MultipleConcatenation s k ps) _ e (r.read_multiple is s k ps) ∙ ap (λ (l : List Refusal). expr_reads is k ++ l) (r.values_are is ps)) joins (moved (expr_reads is) m k a c h) (moved (flat_map (expr_reads is)) qs ps b f l)

  pub call_first : (n : Identifier) (ps qs : List Expr) → x ≡ v.SystemFunctionCall n ps → qs ≡ ps → IsFirst (flat_map (expr_reads is) qs) o → IsFirst (expr_reads is x) o
  call_first n ps qs e f h = same _ _ o (valued is x (v.SystemFunctionCall n ps) _ e (r.read_call is n ps) ∙ r.values_are is ps) (moved (flat_map (expr_reads is)) qs ps o f h)

-- expressions that stand as left sides
module _ (is : ClockNames) (x : Expr) (o : Option Refusal) where
  pub bit_form : (n : Identifier) (s : Span) (i p : Expr) → x ≡ v.BitSelect n s i → p ≡ i → IsFirst (expr_reads is p) o → IsFirst (form_reads is x) o
  bit_form n s i p e f h = same _ _ o (placed is x (v.BitSelect n s i) _ e (r.read_bit is n s i)) (moved (expr_reads is) p i o f h)

  pub part_form : (n : Identifier) (s : Span) (i j p q : Expr) → x ≡ v.PartSelect n s i j → p ≡ i → q ≡ j → IsFirst (expr_reads is p ++ expr_reads is q) o → IsFirst (form_reads is x) o
  part_form n s i j p q e f g h = same _ _ o (placed is x (v.PartSelect n s i j) _ e (r.read_part is n s i j)) (moved_pair is p q i j o f g h)

  pub indexed_form : (n : Identifier) (s : Span) (i j p q : Expr) → x ≡ v.IndexedPartSelect n s i j → p ≡ i → q ≡ j → IsFirst (expr_reads is p ++ expr_reads is q) o → IsFirst (form_reads is x) o
  indexed_form n s i j p q e f g h = same _ _ o (placed is x (v.IndexedPartSelect n s i j) _ e (r.read_indexed is n s i j)) (moved_pair is p q i j o f g h)

  pub concatenation_form : (s : Span) (ps qs : List Expr) → x ≡ v.Concatenation s ps → qs ≡ ps → IsFirst (flat_map (form_reads is) qs) o → IsFirst (form_reads is x) o
  concatenation_form s ps qs e f h = same _ _ o (placed is x (v.Concatenation s ps) _ e (r.read_concatenation is s ps) ∙ r.lefts_are is ps) (moved (flat_map (form_reads is)) qs ps o f h)

  pub number_form : (n : Number) → x ≡ v.Number n → IsFirst (form_reads is x) None
  number_form n e = placed is x (v.Number n) _ e (r.read_number is n)

  pub name_form : (n : Identifier) → x ≡ v.Name n → IsFirst (form_reads is x) None
  name_form n e = placed is x (v.Name n) _ e (r.read_name is n)

  pub inner_form : (s : Span) (i : Expr) → x ≡ v.Parenthesized s i → IsFirst (form_reads is x) None
  inner_form s i e = placed is x (v.Parenthesized s i) _ e (r.read_parenthesized is s i)

  pub unary_form : (s : Span) (op : UnaryOperator) (i : Expr) → x ≡ v.Unary s op i → IsFirst (form_reads is x) None
  unary_form s op i e = placed is x (v.Unary s op i) _ e (r.read_unary is s op i)

  pub binary_form : (s : Span) (op : BinaryOperator) (i j : Expr) → x ≡ v.Binary s op i j → IsFirst (form_reads is x) None
  binary_form s op i j e = placed is x (v.Binary s op i j) _ e (r.read_binary is s op i j)

  pub conditional_form : (s : Span) (k i j : Expr) → x ≡ v.Conditional s k i j → IsFirst (form_reads is x) None
  conditional_form s k i j e = placed is x (v.Conditional s k i j) _ e (r.read_conditional is s k i j)

  pub multiple_form : (s : Span) (k : Expr) (ps : List Expr) → x ≡ v.MultipleConcatenation s k ps → IsFirst (form_reads is x) None
  multiple_form s k ps e = placed is x (v.MultipleConcatenation s k ps) _ e (r.read_multiple is s k ps)

  pub call_form : (n : Identifier) (ps : List Expr) → x ≡ v.SystemFunctionCall n ps → IsFirst (form_reads is x) None
  call_form n ps e = placed is x (v.SystemFunctionCall n ps) _ e (r.read_call is n ps)

-- left sides
module _ (is : ClockNames) (x : LeftSide) (o : Option Refusal) where
  pub name_left : (n : Identifier) → x ≡ lv.Name n → IsFirst (left_reads is x) None
  name_left n e = ap (left_reads is) e ∙ r.left_name is n

  pub bit_left : (n : Identifier) (s : Span) (i p : Expr) → x ≡ lv.BitSelect n s i → p ≡ i → IsFirst (expr_reads is p) o → IsFirst (left_reads is x) o
  bit_left n s i p e f h = same _ _ o (ap (left_reads is) e ∙ r.left_bit is n s i) (moved (expr_reads is) p i o f h)

  pub part_left : (n : Identifier) (s : Span) (i j p q : Expr) → x ≡ lv.PartSelect n s i j → p ≡ i → q ≡ j → IsFirst (expr_reads is p ++ expr_reads is q) o → IsFirst (left_reads is x) o
  part_left n s i j p q e f g h = same _ _ o (ap (left_reads is) e ∙ r.left_part is n s i j) (moved_pair is p q i j o f g h)

  pub indexed_left : (n : Identifier) (s : Span) (i j p q : Expr) → x ≡ lv.IndexedPartSelect n s i j → p ≡ i → q ≡ j → IsFirst (expr_reads is p ++ expr_reads is q) o → IsFirst (left_reads is x) o
  indexed_left n s i j p q e f g h = same _ _ o (ap (left_reads is) e ∙ r.left_indexed is n s i j) (moved_pair is p q i j o f g h)

  pub concatenation_left : (s : Span) (ps qs : List LeftSide) → x ≡ lv.Concatenation s ps → qs ≡ ps → IsFirst (flat_map (left_reads is) qs) o → IsFirst (left_reads is x) o
  concatenation_left s ps qs e f h = same _ _ o (ap (left_reads is) e ∙ r.left_concatenation is s ps ∙ r.all_are is ps) (moved (flat_map (left_reads is)) qs ps o f h)
