-- What an expression of each production says in one evaluation, from what its parts say, and whether it changes.
use Rattle.tb_values.proofs.Common.{◌≡◌, ℕ, List, map, sym, ap, ◌∙◌, Lcg, Span, Number, Identifier, UnaryOperator, Expr, fold-roll-Expr, Names, Drawn, drawn_step, drawn}
use Rattle.vlog_syntax.specs.declared.operator.BinaryOperator.{BinaryOperator}
use Rattle.vlog_syntax.specs.declared.expr.Expr.TheOpen as e
use Rattle.vlog_syntax.specs.declared.expr.Expr.TheVariants as v

pub drawn_number : (names : Names) (phase : ℕ) (n : Number) (g : Lcg) → drawn names phase (v.Number n) g ≡ drawn_step names phase (e.Number n) g
drawn_number names phase n g = ap (λ (x : Expr). drawn names phase x g) (sym (v.rolls-Number n)) ∙ ap (λ (d : Drawn). d g) (fold-roll-Expr Drawn (drawn_step names phase) (e.Number n))

pub drawn_name : (names : Names) (phase : ℕ) (n : Identifier) (g : Lcg) → drawn names phase (v.Name n) g ≡ drawn_step names phase (e.Name n) g
drawn_name names phase n g = ap (λ (x : Expr). drawn names phase x g) (sym (v.rolls-Name n)) ∙ ap (λ (d : Drawn). d g) (fold-roll-Expr Drawn (drawn_step names phase) (e.Name n))

pub drawn_bit_select : (names : Names) (phase : ℕ) (n : Identifier) (s : Span) (i : Expr) (g : Lcg) → drawn names phase (v.BitSelect n s i) g ≡ drawn_step names phase (e.BitSelect n s (drawn names phase i)) g
drawn_bit_select names phase n s i g = ap (λ (x : Expr). drawn names phase x g) (sym (v.rolls-BitSelect n s i)) ∙ ap (λ (d : Drawn). d g) (fold-roll-Expr Drawn (drawn_step names phase) (e.BitSelect n s i))

pub drawn_part_select : (names : Names) (phase : ℕ) (n : Identifier) (s : Span) (i j : Expr) (g : Lcg) → drawn names phase (v.PartSelect n s i j) g ≡ drawn_step names phase (e.PartSelect n s (drawn names phase i) (drawn names phase j)) g
drawn_part_select names phase n s i j g = ap (λ (x : Expr). drawn names phase x g) (sym (v.rolls-PartSelect n s i j)) ∙ ap (λ (d : Drawn). d g) (fold-roll-Expr Drawn (drawn_step names phase) (e.PartSelect n s i j))

pub drawn_indexed_part_select : (names : Names) (phase : ℕ) (n : Identifier) (s : Span) (i j : Expr) (g : Lcg) → drawn names phase (v.IndexedPartSelect n s i j) g ≡ drawn_step names phase (e.IndexedPartSelect n s (drawn names phase i) (drawn names phase j)) g
drawn_indexed_part_select names phase n s i j g = ap (λ (x : Expr). drawn names phase x g) (sym (v.rolls-IndexedPartSelect n s i j)) ∙ ap (λ (d : Drawn). d g) (fold-roll-Expr Drawn (drawn_step names phase) (e.IndexedPartSelect n s i j))

pub drawn_parenthesized : (names : Names) (phase : ℕ) (s : Span) (i : Expr) (g : Lcg) → drawn names phase (v.Parenthesized s i) g ≡ drawn_step names phase (e.Parenthesized s (drawn names phase i)) g
drawn_parenthesized names phase s i g = ap (λ (x : Expr). drawn names phase x g) (sym (v.rolls-Parenthesized s i)) ∙ ap (λ (d : Drawn). d g) (fold-roll-Expr Drawn (drawn_step names phase) (e.Parenthesized s i))

pub drawn_unary : (names : Names) (phase : ℕ) (s : Span) (op : UnaryOperator) (i : Expr) (g : Lcg) → drawn names phase (v.Unary s op i) g ≡ drawn_step names phase (e.Unary s op (drawn names phase i)) g
drawn_unary names phase s op i g = ap (λ (x : Expr). drawn names phase x g) (sym (v.rolls-Unary s op i)) ∙ ap (λ (d : Drawn). d g) (fold-roll-Expr Drawn (drawn_step names phase) (e.Unary s op i))

pub drawn_binary : (names : Names) (phase : ℕ) (s : Span) (op : BinaryOperator) (i j : Expr) (g : Lcg) → drawn names phase (v.Binary s op i j) g ≡ drawn_step names phase (e.Binary s op (drawn names phase i) (drawn names phase j)) g
drawn_binary names phase s op i j g = ap (λ (x : Expr). drawn names phase x g) (sym (v.rolls-Binary s op i j)) ∙ ap (λ (d : Drawn). d g) (fold-roll-Expr Drawn (drawn_step names phase) (e.Binary s op i j))

pub drawn_conditional : (names : Names) (phase : ℕ) (s : Span) (x i j : Expr) (g : Lcg) → drawn names phase (v.Conditional s x i j) g ≡ drawn_step names phase (e.Conditional s (drawn names phase x) (drawn names phase i) (drawn names phase j)) g
drawn_conditional names phase s x i j g = ap (λ (x : Expr). drawn names phase x g) (sym (v.rolls-Conditional s x i j)) ∙ ap (λ (d : Drawn). d g) (fold-roll-Expr Drawn (drawn_step names phase) (e.Conditional s x i j))

pub drawn_concatenation : (names : Names) (phase : ℕ) (s : Span) (ps : List Expr) (g : Lcg) → drawn names phase (v.Concatenation s ps) g ≡ drawn_step names phase (e.Concatenation s (map (drawn names phase) ps)) g
drawn_concatenation names phase s ps g = ap (λ (x : Expr). drawn names phase x g) (sym (v.rolls-Concatenation s ps)) ∙ ap (λ (d : Drawn). d g) (fold-roll-Expr Drawn (drawn_step names phase) (e.Concatenation s ps))

pub drawn_multiple_concatenation : (names : Names) (phase : ℕ) (s : Span) (i : Expr) (ps : List Expr) (g : Lcg) → drawn names phase (v.MultipleConcatenation s i ps) g ≡ drawn_step names phase (e.MultipleConcatenation s (drawn names phase i) (map (drawn names phase) ps)) g
drawn_multiple_concatenation names phase s i ps g = ap (λ (x : Expr). drawn names phase x g) (sym (v.rolls-MultipleConcatenation s i ps)) ∙ ap (λ (d : Drawn). d g) (fold-roll-Expr Drawn (drawn_step names phase) (e.MultipleConcatenation s i ps))

pub drawn_call : (names : Names) (phase : ℕ) (n : Identifier) (ps : List Expr) (g : Lcg) → drawn names phase (v.SystemFunctionCall n ps) g ≡ drawn_step names phase (e.SystemFunctionCall n (map (drawn names phase) ps)) g
drawn_call names phase n ps g = ap (λ (x : Expr). drawn names phase x g) (sym (v.rolls-SystemFunctionCall n ps)) ∙ ap (λ (d : Drawn). d g) (fold-roll-Expr Drawn (drawn_step names phase) (e.SystemFunctionCall n ps))
