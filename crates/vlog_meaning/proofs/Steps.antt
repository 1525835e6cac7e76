-- What an expression of each production says, from what its parts say.
use Rattle.vlog_meaning.proofs.Common.{◌≡◌, List, sym, ap, ◌∙◌, Span, Number, Identifier, UnaryOperator, BinaryOperator, Expr, fold-roll-Expr, Names, Sense, step, sense, senses}
use Rattle.vlog_syntax.specs.declared.expr.Expr.TheOpen as e
use Rattle.vlog_syntax.specs.declared.expr.Expr.TheVariants as v

pub sense_number : (names : Names) (n : Number) → sense names (v.Number n) ≡ step names (e.Number n)
sense_number names n = ap (sense names) (sym (v.rolls-Number n)) ∙ fold-roll-Expr Sense (step names) (e.Number n)

pub sense_name : (names : Names) (n : Identifier) → sense names (v.Name n) ≡ step names (e.Name n)
sense_name names n = ap (sense names) (sym (v.rolls-Name n)) ∙ fold-roll-Expr Sense (step names) (e.Name n)

pub sense_bit_select : (names : Names) (n : Identifier) (s : Span) (i : Expr) → sense names (v.BitSelect n s i) ≡ step names (e.BitSelect n s (sense names i))
sense_bit_select names n s i = ap (sense names) (sym (v.rolls-BitSelect n s i)) ∙ fold-roll-Expr Sense (step names) (e.BitSelect n s i)

pub sense_part_select : (names : Names) (n : Identifier) (s : Span) (m : Expr) (l : Expr) → sense names (v.PartSelect n s m l) ≡ step names (e.PartSelect n s (sense names m) (sense names l))
sense_part_select names n s m l = ap (sense names) (sym (v.rolls-PartSelect n s m l)) ∙ fold-roll-Expr Sense (step names) (e.PartSelect n s m l)

pub sense_indexed_part_select : (names : Names) (n : Identifier) (s : Span) (b : Expr) (w : Expr) → sense names (v.IndexedPartSelect n s b w) ≡ step names (e.IndexedPartSelect n s (sense names b) (sense names w))
sense_indexed_part_select names n s b w = ap (sense names) (sym (v.rolls-IndexedPartSelect n s b w)) ∙ fold-roll-Expr Sense (step names) (e.IndexedPartSelect n s b w)

pub sense_parenthesized : (names : Names) (s : Span) (i : Expr) → sense names (v.Parenthesized s i) ≡ step names (e.Parenthesized s (sense names i))
sense_parenthesized names s i = ap (sense names) (sym (v.rolls-Parenthesized s i)) ∙ fold-roll-Expr Sense (step names) (e.Parenthesized s i)

pub sense_unary : (names : Names) (s : Span) (op : UnaryOperator) (i : Expr) → sense names (v.Unary s op i) ≡ step names (e.Unary s op (sense names i))
sense_unary names s op i = ap (sense names) (sym (v.rolls-Unary s op i)) ∙ fold-roll-Expr Sense (step names) (e.Unary s op i)

pub sense_binary : (names : Names) (s : Span) (op : BinaryOperator) (i : Expr) (j : Expr) → sense names (v.Binary s op i j) ≡ step names (e.Binary s op (sense names i) (sense names j))
sense_binary names s op i j = ap (sense names) (sym (v.rolls-Binary s op i j)) ∙ fold-roll-Expr Sense (step names) (e.Binary s op i j)

pub sense_conditional : (names : Names) (s : Span) (x : Expr) (i : Expr) (j : Expr) → sense names (v.Conditional s x i j) ≡ step names (e.Conditional s (sense names x) (sense names i) (sense names j))
sense_conditional names s x i j = ap (sense names) (sym (v.rolls-Conditional s x i j)) ∙ fold-roll-Expr Sense (step names) (e.Conditional s x i j)

pub sense_concatenation : (names : Names) (s : Span) (ps : List Expr) → sense names (v.Concatenation s ps) ≡ step names (e.Concatenation s (senses names ps))
sense_concatenation names s ps = ap (sense names) (sym (v.rolls-Concatenation s ps)) ∙ fold-roll-Expr Sense (step names) (e.Concatenation s ps)

pub sense_multiple_concatenation : (names : Names) (s : Span) (k : Expr) (ps : List Expr) → sense names (v.MultipleConcatenation s k ps) ≡ step names (e.MultipleConcatenation s (sense names k) (senses names ps))
sense_multiple_concatenation names s k ps = ap (sense names) (sym (v.rolls-MultipleConcatenation s k ps)) ∙ fold-roll-Expr Sense (step names) (e.MultipleConcatenation s k ps)

pub sense_system_function_call : (names : Names) (n : Identifier) (ps : List Expr) → sense names (v.SystemFunctionCall n ps) ≡ step names (e.SystemFunctionCall n (senses names ps))
sense_system_function_call names n ps = ap (sense names) (sym (v.rolls-SystemFunctionCall n ps)) ∙ fold-roll-Expr Sense (step names) (e.SystemFunctionCall n ps)
