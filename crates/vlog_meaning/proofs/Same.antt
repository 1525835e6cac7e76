-- Expressions that say the same, with literals in the places of constants.
use Rattle.vlog_meaning.proofs.Common.{◌≡◌, ℕ, ◌*◌, ◌<◌, ◌^◌, Bool, true, false, ℤ, pos, ◌-ℤ◌, List, [], ◌∷◌, ◌++◌, length, get_or, take, suc, zero, refl, sym, ap, ◌∙◌, arith, Span, Number}
use Rattle.vlog_meaning.proofs.Common.{Identifier, Expr, Fault, Shape, integer, natural, extended, window, is_negative, Names, Store, nothing, store_of, decl_low, decl_value, Sense, step, sense}
use Rattle.vlog_meaning.proofs.Common.{senses, own, index_of, constant_integer, constant_faults, or_else, unsigned, part_width, total_width, repeated, joined, part_bits, select_bits, all_reads}
use Rattle.vlog_meaning.proofs.Common.{name_signals, all_signals, name_faults, range_faults, all_faults, sized, counted, index_features, all_features, own_zeros, all_zeros, IsWhole, IsLiteral}
use Rattle.vlog_syntax.specs.declared.expr.Expr.TheOpen as e
use Rattle.vlog_syntax.specs.declared.expr.Expr.TheVariants as v
use Rattle.vlog_meaning.proofs.Blanks.{left_nil, right_nil, these_nil}
use Rattle.vlog_meaning.proofs.Signs.{extended_negative, extended_positive}
use Rattle.vlog_meaning.proofs.Steps as step_of
use Rattle.vlog_meaning.proofs.Whole.{says, nothing_held}

-- A literal.

extended_by : (s : Shape) (v : ℕ) (b : Bool) → is_negative s v ≡ b → v < 2 ^ s.width → extended s s.width v ≡ v
extended_by s v true n h = extended_negative s s.width v n h (omega arith) ∙ (omega arith)
extended_by s v false n h = extended_positive s s.width v n h (omega arith)

number_integer : (names : Names) (n : Number) → constant_integer (sense names (v.Number n)) ≡ integer (record { width = n.value.width; is_signed = n.is_signed }) n.value.bits
number_integer names n =
    let s : Shape = record { width = n.value.width; is_signed = n.is_signed } in
    ap (λ (y : Sense). constant_integer y) (step_of.sense_number names n) ∙ ap (λ (k : ℕ). integer s k) (extended_by s n.value.bits (is_negative s n.value.bits) refl n.value.fits)

integer_parts : (s : Shape) (w : ℕ) (b : Bool) (n : ℕ) → w ≡ s.width → b ≡ s.is_signed → integer (record { width = w; is_signed = b }) n ≡ integer s n
integer_parts s w b n is_w is_b = rw (is_w, is_b) refl

pub literal_number : (names : Names) (x : Expr) (n : Number) (s : Shape) (u : ℕ) → n.value.width ≡ s.width → n.value.bits ≡ u → n.is_signed ≡ s.is_signed → s ≡ (sense names x).shape → u ≡ own (store_of []) (sense names x) → IsLiteral (sense names (v.Number n)) (sense names x)
literal_number names x n s u wide bits sign shaped valued =
    let held : u ≡ own nothing (sense names x) = valued ∙ ap (λ (t : Store). own t (sense names x)) nothing_held in
    record {
      integer =
          number_integer names n
          ∙ integer_parts s n.value.width n.is_signed n.value.bits wide sign
          ∙ ap (λ (t : Shape). integer t n.value.bits) shaped
          ∙ ap (λ (k : ℕ). integer (sense names x).shape k) (bits ∙ held);
      signals = ap (λ (y : Sense). y.signals) (step_of.sense_number names n);
      faults = ap (λ (y : Sense). constant_faults y) (step_of.sense_number names n);
    }

-- Literals in the places of constants: the expression asks of a constant for its integer alone, and has nothing wrong in it.

pub no_signals : (a : Sense) → constant_faults a ≡ [] → a.signals ≡ []
no_signals a h = left_nil _ _ (these_nil _ _ h)

-- a part select, of its bounds' integers, their signals and what is wrong in them
abbrev part_sense : Names → Identifier → Span → ℤ → ℤ → List Fault → List Fault → Sense
part_sense names n s msb lsb signals faults = record {
  shape = unsigned (part_width msb lsb);
  value = λ store c. window (lsb -ℤ pos (decl_low (names n.name))) (part_width msb lsb) (decl_value store (names n.name));
  reads = part_bits (names n.name) (lsb -ℤ pos (decl_low (names n.name))) (part_width msb lsb);
  signals = name_signals n.span (names n.name) ++ signals;
  faults = name_faults n.span (names n.name) ++ or_else faults (range_faults s msb lsb);
  features = [];
  zeros = λ c. [];
}

part_with : (names : Names) (n : Identifier) (s : Span) (x y a b : Sense) → IsLiteral x a → IsLiteral y b → constant_faults a ≡ [] → constant_faults b ≡ [] → step names (e.PartSelect n s x y) ≡ step names (e.PartSelect n s a b)
part_with names n s x y a b p q f g =
    ap (λ (z : ℤ). part_sense names n s z (constant_integer y) (x.signals ++ y.signals) (constant_faults x ++ constant_faults y)) p.integer
    ∙ ap (λ (z : ℤ). part_sense names n s (constant_integer a) z (x.signals ++ y.signals) (constant_faults x ++ constant_faults y)) q.integer
    ∙ ap (λ (ps : List Fault). part_sense names n s (constant_integer a) (constant_integer b) (ps ++ y.signals) (constant_faults x ++ constant_faults y)) (p.signals ∙ sym (no_signals a f))
    ∙ ap (λ (ps : List Fault). part_sense names n s (constant_integer a) (constant_integer b) (a.signals ++ ps) (constant_faults x ++ constant_faults y)) (q.signals ∙ sym (no_signals b g))
    ∙ ap (λ (fs : List Fault). part_sense names n s (constant_integer a) (constant_integer b) (a.signals ++ b.signals) (fs ++ constant_faults y)) (p.faults ∙ sym f)
    ∙ ap (λ (fs : List Fault). part_sense names n s (constant_integer a) (constant_integer b) (a.signals ++ b.signals) (constant_faults a ++ fs)) (q.faults ∙ sym g)

part_constants : (names : Names) (n : Identifier) (s : Span) (m l : Expr) → IsWhole names (v.PartSelect n s m l) → constant_faults (sense names m) ++ constant_faults (sense names l) ≡ []
part_constants names n s m l whole = these_nil _ _ (right_nil _ _ (says names (v.PartSelect n s m l) _ (step_of.sense_part_select names n s m l) whole))

pub literal_part : (names : Names) (n : Identifier) (s : Span) (m l x y : Expr) → IsWhole names (v.PartSelect n s m l) → IsLiteral (sense names x) (sense names m) → IsLiteral (sense names y) (sense names l) → sense names (v.PartSelect n s x y) ≡ sense names (v.PartSelect n s m l)
literal_part names n s m l x y whole p q =
    let f = part_constants names n s m l whole in
    step_of.sense_part_select names n s x y
    ∙ part_with names n s (sense names x) (sense names y) (sense names m) (sense names l) p q (left_nil _ _ f) (right_nil _ _ f)
    ∙ sym (step_of.sense_part_select names n s m l)

-- an indexed part select, of its width's integer, its signals and what is wrong in it
abbrev indexed_sense : Names → Identifier → Span → Sense → ℤ → List Fault → List Fault → Sense
indexed_sense names n s base width signals faults = record {
  shape = unsigned (natural width);
  value = λ store c. window (index_of store base -ℤ pos (decl_low (names n.name))) (natural width) (decl_value store (names n.name));
  reads = select_bits (names n.name) base (natural width);
  signals = name_signals n.span (names n.name) ++ (base.signals ++ signals);
  faults = name_faults n.span (names n.name) ++ (base.faults ++ or_else faults (sized s (natural width)));
  features = index_features s (names n.name) base ++ base.features;
  zeros = λ c. own_zeros base;
}

indexed_with : (names : Names) (n : Identifier) (s : Span) (i x a : Sense) → IsLiteral x a → constant_faults a ≡ [] → step names (e.IndexedPartSelect n s i x) ≡ step names (e.IndexedPartSelect n s i a)
indexed_with names n s i x a p f =
    ap (λ (z : ℤ). indexed_sense names n s i z x.signals (constant_faults x)) p.integer
    ∙ ap (λ (ps : List Fault). indexed_sense names n s i (constant_integer a) ps (constant_faults x)) (p.signals ∙ sym (no_signals a f))
    ∙ ap (λ (fs : List Fault). indexed_sense names n s i (constant_integer a) a.signals fs) (p.faults ∙ sym f)

pub literal_indexed : (names : Names) (n : Identifier) (s : Span) (i w x : Expr) → IsWhole names (v.IndexedPartSelect n s i w) → IsLiteral (sense names x) (sense names w) → sense names (v.IndexedPartSelect n s i x) ≡ sense names (v.IndexedPartSelect n s i w)
literal_indexed names n s i w x whole p =
    let f = these_nil _ _ (right_nil _ _ (right_nil _ _ (says names (v.IndexedPartSelect n s i w) _ (step_of.sense_indexed_part_select names n s i w) whole))) in
    step_of.sense_indexed_part_select names n s i x
    ∙ indexed_with names n s (sense names i) (sense names x) (sense names w) p f
    ∙ sym (step_of.sense_indexed_part_select names n s i w)

-- a replication, of its count's integer, its signals and what is wrong in it
abbrev times_sense : Span → ℤ → List Fault → List Fault → List Sense → Sense
times_sense s count signals faults parts = record {
  shape = unsigned (natural count * total_width parts);
  value = λ store c. repeated (natural count) (total_width parts) (joined store parts);
  reads = all_reads parts;
  signals = signals ++ all_signals parts;
  faults = or_else (or_else faults (counted s (natural count)) ++ all_faults parts) (sized s (natural count * total_width parts));
  features = all_features parts;
  zeros = λ c. all_zeros parts;
}

times_with : (names : Names) (s : Span) (x a : Sense) (ps : List Sense) → IsLiteral x a → constant_faults a ≡ [] → step names (e.MultipleConcatenation s x ps) ≡ step names (e.MultipleConcatenation s a ps)
times_with names s x a ps p f =
    ap (λ (z : ℤ). times_sense s z x.signals (constant_faults x) ps) p.integer
    ∙ ap (λ (zs : List Fault). times_sense s (constant_integer a) zs (constant_faults x) ps) (p.signals ∙ sym (no_signals a f))
    ∙ ap (λ (fs : List Fault). times_sense s (constant_integer a) a.signals fs ps) (p.faults ∙ sym f)

pub literal_times : (names : Names) (s : Span) (k x : Expr) (ps : List Expr) → IsWhole names (v.MultipleConcatenation s k ps) → IsLiteral (sense names x) (sense names k) → sense names (v.MultipleConcatenation s x ps) ≡ sense names (v.MultipleConcatenation s k ps)
literal_times names s k x ps whole p =
    let f = these_nil _ _ (left_nil _ _ (these_nil _ _ (says names (v.MultipleConcatenation s k ps) _ (step_of.sense_multiple_concatenation names s k ps) whole))) in
    step_of.sense_multiple_concatenation names s x ps
    ∙ times_with names s (sense names x) (sense names k) (senses names ps) p f
    ∙ sym (step_of.sense_multiple_concatenation names s k ps)

-- One part more of a list.

senses_push : (names : Names) (xs : List Expr) (x : Expr) → senses names (xs ++ x ∷ []) ≡ senses names xs ++ sense names x ∷ []
senses_push names [] x = refl
senses_push names (y ∷ xs) x = ap (λ (zs : List Sense). sense names y ∷ zs) (senses_push names xs x)

senses_take : (names : Names) (es : List Expr) (k : ℕ) (x : Expr) → x ≡ get_or es k x → k < length es → senses names (take (suc k) es) ≡ senses names (take k es) ++ sense names x ∷ []
senses_take names [] k x is h = absurd (omega arith)
senses_take names (y ∷ es) zero x is h = ap (λ (z : Expr). sense names z ∷ []) (sym is)
senses_take names (y ∷ es) (suc k) x is h = ap (λ (zs : List Sense). sense names y ∷ zs) (senses_take names es k x is (omega arith))

pub one_more : (names : Names) (es xs : List Expr) (k : ℕ) (x y : Expr) → x ≡ get_or es k x → k < length es → senses names xs ≡ senses names (take k es) → sense names y ≡ sense names x → senses names (xs ++ y ∷ []) ≡ senses names (take (suc k) es)
one_more names es xs k x y is h these this =
    senses_push names xs y
    ∙ ap (λ (zs : List Sense). zs ++ sense names y ∷ []) these
    ∙ ap (λ (z : Sense). senses names (take k es) ++ z ∷ []) this
    ∙ sym (senses_take names es k x is h)
