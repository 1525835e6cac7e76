-- What an expression of each kind reads, from what its operands read.
use Rattle.signal_masks.proofs.Common.{◌≡◌, zero, suc, ℕ, ◌<◌, Bool, true, false, ◌||◌, ℤ, pos, ◌-ℤ◌, List, [], ◌∷◌, sym, ap, ◌∙◌, arith, length, get_or, take, Option, Span, Identifier, Expr, Decl}
use Rattle.signal_masks.proofs.Common.{Names, decl_low, natural, Sense, sense, senses, constant_integer, part_width, name_bits, part_bits, select_bits, all_reads, is_empty, or-again}
use Rattle.vlog_syntax.specs.declared.identifier.Number.{Number}
use Rattle.vlog_syntax.specs.declared.operator.UnaryOperator.{UnaryOperator}
use Rattle.vlog_syntax.specs.declared.operator.BinaryOperator.{BinaryOperator}
use Rattle.vlog_syntax.specs.declared.expr.Expr.TheVariants as v
use Rattle.vlog_meaning.proofs.Steps as step
use Rattle.signal_masks.proofs.Placing.{or_end}

module _ (names : Names) (x : Expr) (n i : ℕ) where
  abbrev pub reads_here : Expr → Bool
  reads_here y = (sense names y).reads n i

  of_kind : (y : Expr) (s : Sense) → x ≡ y → sense names y ≡ s → reads_here x ≡ s.reads n i
  of_kind y s is steps = ap reads_here is ∙ ap (λ (z : Sense). z.reads n i) steps

  pub reads_number : (k : Number) (old : Bool) → x ≡ v.Number k → old ≡ (old || reads_here x)
  reads_number k old is = sym (ap (λ (b : Bool). old || b) (of_kind _ _ is (step.sense_number names k)) ∙ or_end old)

  pub reads_name : (k : Identifier) (old new : Bool) → x ≡ v.Name k → new ≡ (old || name_bits (names k.name) n i) → new ≡ (old || reads_here x)
  reads_name k old new is e = e ∙ ap (λ (b : Bool). old || b) (sym (of_kind _ _ is (step.sense_name names k)))

  pub reads_bit : (k : Identifier) (at : Span) (index : Expr) (old new : Bool) → x ≡ v.BitSelect k at index → new ≡ (old || select_bits (names k.name) (sense names index) 1 n i) → new ≡ (old || reads_here x)
  reads_bit k at index old new is e = e ∙ ap (λ (b : Bool). old || b) (sym (of_kind _ _ is (step.sense_bit_select names k at index)))

  pub reads_part : (k : Identifier) (at : Span) (msb lsb : Expr) (place : ℤ) (size : ℕ) (old new : Bool) → x ≡ v.PartSelect k at msb lsb → place ≡ constant_integer (sense names lsb) → size ≡ (sense names x).shape.width → new ≡ (old || part_bits (names k.name) (place -ℤ pos (decl_low (names k.name))) size n i) → new ≡ (old || reads_here x)
  reads_part k at msb lsb place size old new is at_place sized e =
      let width : (sense names x).shape.width ≡ part_width (constant_integer (sense names msb)) (constant_integer (sense names lsb)) = ap (λ (y : Expr). (sense names y).shape.width) is ∙ ap (λ (z : Sense). z.shape.width) (step.sense_part_select names k at msb lsb) in
      e ∙ ap (λ (p : ℤ). old || part_bits (names k.name) (p -ℤ pos (decl_low (names k.name))) size n i) at_place ∙ ap (λ (w : ℕ). old || part_bits (names k.name) (constant_integer (sense names lsb) -ℤ pos (decl_low (names k.name))) w n i) (sized ∙ width) ∙ ap (λ (b : Bool). old || b) (sym (of_kind _ _ is (step.sense_part_select names k at msb lsb)))

  pub reads_indexed : (k : Identifier) (at : Span) (base count : Expr) (size : ℕ) (old new : Bool) → x ≡ v.IndexedPartSelect k at base count → size ≡ (sense names x).shape.width → new ≡ (old || select_bits (names k.name) (sense names base) size n i) → new ≡ (old || reads_here x)
  reads_indexed k at base count size old new is sized e =
      let width : (sense names x).shape.width ≡ natural (constant_integer (sense names count)) = ap (λ (y : Expr). (sense names y).shape.width) is ∙ ap (λ (z : Sense). z.shape.width) (step.sense_indexed_part_select names k at base count) in
      e ∙ ap (λ (w : ℕ). old || select_bits (names k.name) (sense names base) w n i) (sized ∙ width) ∙ ap (λ (b : Bool). old || b) (sym (of_kind _ _ is (step.sense_indexed_part_select names k at base count)))

  pub reads_inner : (at : Span) (inner : Expr) (old new : Bool) → x ≡ v.Parenthesized at inner → new ≡ (old || reads_here inner) → new ≡ (old || reads_here x)
  reads_inner at inner old new is e = e ∙ ap (λ (b : Bool). old || b) (sym (of_kind _ _ is (step.sense_parenthesized names at inner)))

  pub reads_operand : (at : Span) (op : UnaryOperator) (operand : Expr) (old new : Bool) → x ≡ v.Unary at op operand → new ≡ (old || reads_here operand) → new ≡ (old || reads_here x)
  reads_operand at op operand old new is e = e ∙ ap (λ (b : Bool). old || b) (sym (of_kind _ _ is (step.sense_unary names at op operand)))

  pub reads_pair : (at : Span) (op : BinaryOperator) (left right : Expr) (old mid new : Bool) → x ≡ v.Binary at op left right → mid ≡ (old || reads_here left) → new ≡ (mid || reads_here right) → new ≡ (old || reads_here x)
  reads_pair at op left right old mid new is e f = f ∙ ap (λ (b : Bool). b || reads_here right) e ∙ or-again old (reads_here left) (reads_here right) ∙ ap (λ (b : Bool). old || b) (sym (of_kind _ _ is (step.sense_binary names at op left right)))

  pub reads_choice : (at : Span) (condition first second : Expr) (old mid next new : Bool) → x ≡ v.Conditional at condition first second → mid ≡ (old || reads_here condition) → next ≡ (mid || reads_here first) → new ≡ (next || reads_here second) → new ≡ (old || reads_here x)
  reads_choice at condition first second old mid next new is e f g =
      g ∙ ap (λ (b : Bool). b || reads_here second) (f ∙ ap (λ (b : Bool). b || reads_here first) e) ∙ or-again (old || reads_here condition) (reads_here first) (reads_here second) ∙ or-again old (reads_here condition) (reads_here first || reads_here second) ∙ ap (λ (b : Bool). old || b) (sym (of_kind _ _ is (step.sense_conditional names at condition first second)))

  pub reads_joined : (at : Span) (parts : List Expr) (old new : Bool) → x ≡ v.Concatenation at parts → new ≡ (old || all_reads (senses names parts) n i) → new ≡ (old || reads_here x)
  reads_joined at parts old new is e = e ∙ ap (λ (b : Bool). old || b) (sym (of_kind _ _ is (step.sense_concatenation names at parts)))

  pub reads_repeated : (at : Span) (count : Expr) (parts : List Expr) (old new : Bool) → x ≡ v.MultipleConcatenation at count parts → new ≡ (old || all_reads (senses names parts) n i) → new ≡ (old || reads_here x)
  reads_repeated at count parts old new is e = e ∙ ap (λ (b : Bool). old || b) (sym (of_kind _ _ is (step.sense_multiple_concatenation names at count parts)))

  pub reads_call : (k : Identifier) (arguments : List Expr) (old new : Bool) → x ≡ v.SystemFunctionCall k arguments → new ≡ (old || all_reads (senses names arguments) n i) → new ≡ (old || reads_here x)
  reads_call k arguments old new is e = e ∙ ap (λ (b : Bool). old || b) (sym (of_kind _ _ is (step.sense_system_function_call names k arguments)))

-- several expressions, one more at a time
pub reads_take : (names : Names) (es : List Expr) (k : ℕ) (x : Expr) (n i : ℕ) → x ≡ get_or es k x → k < length es → all_reads (senses names (take (suc k) es)) n i ≡ (all_reads (senses names (take k es)) n i || (sense names x).reads n i)
reads_take names [] k x n i is h = absurd (omega arith)
reads_take names (y ∷ ys) zero x n i is h = ap (λ (z : Expr). (sense names z).reads n i || false) (sym is) ∙ or_end ((sense names x).reads n i)
reads_take names (y ∷ ys) (suc k) x n i is h = ap (λ (b : Bool). (sense names y).reads n i || b) (reads_take names ys k x n i is (omega arith)) ∙ sym (or-again ((sense names y).reads n i) (all_reads (senses names (take k ys)) n i) ((sense names x).reads n i))

pub more_reads : (names : Names) (es : List Expr) (k : ℕ) (x : Expr) (n i : ℕ) (old before after : Bool) → x ≡ get_or es k x → k < length es → before ≡ (old || all_reads (senses names (take k es)) n i) → after ≡ (before || (sense names x).reads n i) → after ≡ (old || all_reads (senses names (take (suc k) es)) n i)
more_reads names es k x n i old before after is h e f = f ∙ ap (λ (b : Bool). b || (sense names x).reads n i) e ∙ or-again old (all_reads (senses names (take k es)) n i) ((sense names x).reads n i) ∙ ap (λ (b : Bool). old || b) (sym (reads_take names es k x n i is h))

-- a select at a constant place, and at another
pub select_constant : (d : Option Decl) (x : Sense) (size n i : ℕ) (place : ℤ) (old new : Bool) → is_empty x.signals ≡ true → place ≡ constant_integer x → new ≡ (old || part_bits d (place -ℤ pos (decl_low d)) size n i) → new ≡ (old || select_bits d x size n i)
select_constant d x size n i place old new is at_place e = rw is (e ∙ ap (λ (p : ℤ). old || part_bits d (p -ℤ pos (decl_low d)) size n i) at_place)

pub select_other : (d : Option Decl) (x : Sense) (size n i : ℕ) (old mid new : Bool) → is_empty x.signals ≡ false → mid ≡ (old || name_bits d n i) → new ≡ (mid || x.reads n i) → new ≡ (old || select_bits d x size n i)
select_other d x size n i old mid new is e f = rw is (f ∙ ap (λ (b : Bool). b || x.reads n i) e ∙ or-again old (name_bits d n i) (x.reads n i))
