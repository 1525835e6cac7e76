-- A left side in which nothing is refused can be written.
use Rattle.process_cells.proofs.Common.{◌≡◌, ℕ, ◌+◌, ◌≤◌, Bool, true, false, ◌||◌, List, [], ◌∷◌, ◌++◌, map, Option, Some, None, refl, sym, ap, ◌∙◌, subst, inl, inr, arith, flat_map, if◌then◌else◌}
use Rattle.process_cells.proofs.Common.{◌==◌, eqb_tells, Span, Identifier, Expr, LeftSide, roll-LeftSide, DivideByZero, Fault, Decl, Signal, Constant, Shape, Names, decl_shape, Sense, sense, senses}
use Rattle.process_cells.proofs.Common.{fault, or_else, own_zeros, is_empty, index_features, name_faults, total_width, all_faults, all_zeros, IsWhole, left_nil, right_nil, is_constant, Part, Select}
use Rattle.process_cells.proofs.Common.{Whole, Range, Indexed, Vector, vector_of, part_vector, width_by, parts_width, parts_of, parts_step, select_width, concatenated, plan, plans, all_unsupported}
use Rattle.process_cells.proofs.Common.{wrong, own_faults, same_form, form_step, name_refusals, part_refusals, part_form, Index, IsClearPart, CanWriteAll}
use Rattle.std.proofs.lemmas.Grind.{flat_map-append}
use Rattle.vlog_syntax.specs.declared.expr.Expr.TheVariants as v
use Rattle.vlog_syntax.specs.declared.left_side.LeftSide.TheOpen as l
use Rattle.vlog_syntax.specs.declared.left_side.LeftSide.TheOpen.{LeftSide-F}
use Rattle.vlog_syntax.specs.declared.left_side.LeftSide.TheFolds.{fold-roll-LeftSide, ind-LeftSide, map-LeftSide}
use Rattle.vlog_meaning.specs.Operators.{IsSized}
use Rattle.vlog_meaning.proofs.Steps.{sense_name, sense_bit_select, sense_part_select, sense_indexed_part_select, sense_concatenation}
use Rattle.vlog_meaning.proofs.Whole.{whole_index, whole_part, whole_indexed, whole_join, name_sized, says}
use Rattle.vlog_effects.specs.LeftSides.{Bit}
use Rattle.elab_expr.specs.Expressions.{refusals}
use Rattle.elab_expr.proofs.Facts.{bit_parts, indexed_parts, indexed_one, join_supported}
use Rattle.proc_muxes.proofs.Piecing.{width-append}

-- An expression in which nothing is refused.
pub clear : (names : Names) (x : Expr) (c : Shape) → IsWhole names x → (plan names x).unsupported ≡ [] → (sense names x).zeros c ≡ [] → refusals names x c ≡ []
clear names x c whole supported zeros =
    let faults : List Fault = map (fault DivideByZero) ((sense names x).zeros c) in
    ap (λ (fs : List Fault). or_else (fs ++ (plan names x).unsupported) faults) whole ∙ ap (λ (fs : List Fault). or_else fs faults) supported ∙ ap (map (fault DivideByZero)) zeros

-- A name that can be written is a signal.

pub record NamesSignal (d : Option Decl) : Type 0 where
  pub vector : Vector
  pub is : vector_of d ≡ Some vector
  pub width : (decl_shape d).width ≡ vector.width
  pub sized : IsSized (decl_shape d)

names_signal : (written : List Bool) (span : Span) (d : Option Decl) → name_faults span d ≡ [] → name_refusals written span d ≡ [] → NamesSignal d
names_signal written span (Some (Signal width low is_signed number)) e f = record { vector = record { number = number; width = width; low = low }; is = refl; width = refl; sized = name_sized span (Some (Signal width low is_signed number)) e }
names_signal written span (Some (Constant value low is_signed)) e f = absurd cc
names_signal written span None e f = absurd cc

-- What is known of the parts.

-- each part names a signal of 1 to 128 bits
abbrev pub NameSignals : Names → List Part → Type 0
NameSignals names [] = Unit {0}
NameSignals names (p ∷ ps) = NamesSignal (names p.name.name) × NameSignals names ps

-- nothing is wrong in the expressions of their forms
abbrev pub HaveForms : Names → List Part → Type 0
HaveForms names [] = Unit {0}
HaveForms names (p ∷ ps) = (own_faults names (part_form p.name p.select) ≡ []) × HaveForms names ps

-- the parts can be written, and have as many bits as the expression, at most 128
pub record Writes (names : Names) (e : Expr) (ps : List Part) : Type 0 where
  pub width : (sense names e).shape.width ≡ parts_width names ps
  pub narrow : (sense names e).shape.width ≤ 128
  pub can : CanWriteAll names ps
  pub signals : NameSignals names ps
  pub forms : HaveForms names ps

-- where nothing is refused
abbrev IsRight : Names → List Bool → Expr → List Part → Type 0
IsRight names written e ps = IsWhole names e → (plan names e).unsupported ≡ [] → own_zeros (sense names e) ≡ [] → flat_map (part_refusals names written) ps ≡ [] → Writes names e ps

-- Indices.

index_varies : (b : Bool) (x j : Index) → (if b then None else Some x) ≡ Some j → (b ≡ false) × (x ≡ j)
index_varies true x j e = absurd cc
index_varies false x j e = (refl, cc)

no_index : (A : Type 0) (j : Index) → None ≡ Some j → A
no_index A j e = absurd cc

low_only : (low : ℕ) (e : Bool) (f : Fault) → (if low == 0 || e then [] else f ∷ []) ≡ [] → e ≡ false → low ≡ 0
low_only low true f h is = absurd cc
low_only low false f h is = elim (eqb_tells low 0) [ inl t ↦ t.1 | inr t ↦ absurd (let g : f ∷ [] ≡ [] = sym (rw t.0 refl) ∙ h in cc) ]

low_zero : (span : Span) (d : Option Decl) (s : Sense) (w : Vector) → vector_of d ≡ Some w → index_features span d s ≡ [] → is_empty s.signals ≡ false → w.low ≡ 0
low_zero span (Some (Signal width low is_signed number)) s w is e varies = let same : low ≡ w.low = ap (λ (x : Vector). x.low) (vector_same (record { number = number; width = width; low = low }) w is) in sym same ∙ low_only low (is_empty s.signals) _ e varies
  where
    vector_same : (a b : Vector) → Some a ≡ Some b → a ≡ b
    vector_same a b e = cc
low_zero span (Some (Constant value low is_signed)) s w is e varies = absurd cc
low_zero span None s w is e varies = absurd cc

-- a base that is no constant is unsigned, since it may have any width
unsigned_by : (b : Bool) (n : ℕ) → n ≡ 0 → (b ≡ true → n ≡ 1) → b ≡ false
unsigned_by true n none one = absurd (let e : n ≡ 1 = one refl in omega arith)
unsigned_by false n none one = refl

-- One part.

width_at : (names : Names) (select : Select) (o : Option Vector) (w : Vector) → o ≡ Some w → width_by names select o ≡ select_width names w select
width_at names select o w e = ap (width_by names select) e

pub nothing_wrong : (names : Names) (x : Expr) → IsWhole names x → (plan names x).unsupported ≡ [] → wrong names x ≡ []
nothing_wrong names x whole supported = ap (λ (fs : List Fault). fs ++ (plan names x).unsupported) whole ∙ supported

one : (names : Names) (e : Expr) (p : Part) (s : NamesSignal (names p.name.name)) → (sense names e).shape.width ≡ select_width names s.vector p.select → IsClearPart names p s.vector → IsWhole names (part_form p.name p.select) → (plan names (part_form p.name p.select)).unsupported ≡ [] → own_zeros (sense names (part_form p.name p.select)) ≡ [] → Writes names e (p ∷ [])
one names e p s width c form supported zeros =
    let here = width_at names p.select (part_vector names p) s.vector s.is in
    let narrow = c.narrow in
    record { width = omega (arith, width, here); narrow = omega (arith, width, narrow); can = ((s.vector, c), tt); signals = (s, tt); forms = (clear names (part_form p.name p.select) (sense names (part_form p.name p.select)).shape form supported zeros, tt) }

signal_in : (names : Names) (written : List Bool) (p : Part) → name_faults p.name.span (names p.name.name) ≡ [] → flat_map (part_refusals names written) (p ∷ []) ≡ [] → NamesSignal (names p.name.name)
signal_in names written p e f = names_signal written p.name.span (names p.name.name) e (left_nil (part_refusals names written p) [] f)

right_name : (names : Names) (written : List Bool) (n : Identifier) → IsRight names written (v.Name n) (record { name = n; select = Whole } ∷ [])
right_name names written n whole supported zeros free =
    let p : Part = record { name = n; select = Whole } in
    let s = signal_in names written p (says names (v.Name n) _ (sense_name names n) whole) free in
    let some = s.sized.some in
    let narrow = s.sized.narrow in
    let same = s.width in
    one names (v.Name n) p s (ap (λ (x : Sense). x.shape.width) (sense_name names n) ∙ same) (record {
      vector = s.is;
      some = omega (arith, some, same);
      narrow = omega (arith, narrow, same);
      whole = tt;
      low = λ i e. no_index _ i e;
      index = λ i e. no_index _ i e;
      plain = λ i e. no_index _ i e;
    }) whole supported zeros

right_bit : (names : Names) (written : List Bool) (n : Identifier) (at : Span) (i : Expr) → IsRight names written (v.BitSelect n at i) (record { name = n; select = Bit at i } ∷ [])
right_bit names written n at i whole supported zeros free =
    let p : Part = record { name = n; select = Bit at i } in
    let is = sense_bit_select names n at i in
    let x : Index = record { place = at; expr = i } in
    let s = signal_in names written p (left_nil _ _ (says names (v.BitSelect n at i) _ is whole)) free in
    let inner = whole_index names (v.BitSelect n at i) n at i refl whole in
    let parts = bit_parts names (v.BitSelect n at i) (sense names (v.BitSelect n at i)).shape n at i refl supported in
    let none : own_zeros (sense names i) ≡ [] = sym (ap own_zeros is) ∙ zeros in
    one names (v.BitSelect n at i) p s (ap (λ (x : Sense). x.shape.width) is) (record {
      vector = s.is;
      some = omega arith;
      narrow = omega arith;
      whole = inner;
      low = λ j e. low_zero at (names n.name) (sense names i) s.vector s.is parts.0 (index_varies (is_constant names i) x j e).0;
      index = λ j e. subst (λ (k : Index). refusals names k.expr (sense names k.expr).shape ≡ []) (index_varies (is_constant names i) x j e).1 (clear names i (sense names i).shape inner parts.1 none);
      plain = λ j e. tt;
    }) whole supported zeros

right_range : (names : Names) (written : List Bool) (n : Identifier) (at : Span) (msb lsb : Expr) → IsRight names written (v.PartSelect n at msb lsb) (record { name = n; select = Range at msb lsb } ∷ [])
right_range names written n at msb lsb whole supported zeros free =
    let p : Part = record { name = n; select = Range at msb lsb } in
    let is = sense_part_select names n at msb lsb in
    let s = signal_in names written p (left_nil _ _ (says names (v.PartSelect n at msb lsb) _ is whole)) free in
    let inner = whole_part names (v.PartSelect n at msb lsb) n at msb lsb refl whole in
    one names (v.PartSelect n at msb lsb) p s (ap (λ (x : Sense). x.shape.width) is) (record {
      vector = s.is;
      some = inner.some;
      narrow = inner.narrow;
      whole = (inner.msb, inner.lsb);
      low = λ i e. no_index _ i e;
      index = λ i e. no_index _ i e;
      plain = λ i e. no_index _ i e;
    }) whole supported zeros

right_indexed : (names : Names) (written : List Bool) (n : Identifier) (at : Span) (base count : Expr) → IsRight names written (v.IndexedPartSelect n at base count) (record { name = n; select = Indexed at base count } ∷ [])
right_indexed names written n at base count whole supported zeros free =
    let p : Part = record { name = n; select = Indexed at base count } in
    let is = sense_indexed_part_select names n at base count in
    let x : Index = record { place = at; expr = base } in
    let s = signal_in names written p (left_nil _ _ (says names (v.IndexedPartSelect n at base count) _ is whole)) free in
    let inner = whole_indexed names (v.IndexedPartSelect n at base count) n at base count refl whole in
    let parts = indexed_parts names (v.IndexedPartSelect n at base count) (sense names (v.IndexedPartSelect n at base count)).shape n at base count refl supported in
    let none : own_zeros (sense names base) ≡ [] = sym (ap own_zeros is) ∙ zeros in
    one names (v.IndexedPartSelect n at base count) p s (ap (λ (x : Sense). x.shape.width) is) (record {
      vector = s.is;
      some = inner.some;
      narrow = inner.narrow;
      whole = (inner.base, inner.width);
      low = λ j e. low_zero at (names n.name) (sense names base) s.vector s.is parts.0 (index_varies (is_constant names base) x j e).0;
      index = λ j e. subst (λ (k : Index). refusals names k.expr (sense names k.expr).shape ≡ []) (index_varies (is_constant names base) x j e).1 (clear names base (sense names base).shape inner.base parts.1 none);
      plain = λ j e. subst (λ (k : Index). (sense names k.expr).shape.is_signed ≡ false) (index_varies (is_constant names base) x j e).1 (unsigned_by (sense names base).shape.is_signed 0 refl (λ signed. indexed_one names (v.IndexedPartSelect n at base count) (sense names (v.IndexedPartSelect n at base count)).shape n at base count refl 0 supported inner.base signed (index_varies (is_constant names base) x j e).0));
    }) whole supported zeros

-- Parts one after the other.

can_both : (names : Names) (ps qs : List Part) → CanWriteAll names ps → CanWriteAll names qs → CanWriteAll names (ps ++ qs)
can_both names [] qs h k = k
can_both names (p ∷ ps) qs h k = (h.0, can_both names ps qs h.1 k)

signals_both : (names : Names) (ps qs : List Part) → NameSignals names ps → NameSignals names qs → NameSignals names (ps ++ qs)
signals_both names [] qs h k = k
signals_both names (p ∷ ps) qs h k = (h.0, signals_both names ps qs h.1 k)

forms_both : (names : Names) (ps qs : List Part) → HaveForms names ps → HaveForms names qs → HaveForms names (ps ++ qs)
forms_both names [] qs h k = k
forms_both names (p ∷ ps) qs h k = (h.0, forms_both names ps qs h.1 k)

sum_width : (a b c d e : ℕ) → a ≡ c → b ≡ d → e ≡ c + d → a + b ≡ e
sum_width a b c d e f g h = omega arith

-- a left side with the proof for it
abbrev Proved : Names → List Bool → Type 0
Proved names written = (x : LeftSide) × IsRight names written (same_form x) (parts_of x)

-- what several say together
pub record Join (names : Names) (es : List Expr) (ps : List Part) : Type 0 where
  pub width : total_width (senses names es) ≡ parts_width names ps
  pub can : CanWriteAll names ps
  pub signals : NameSignals names ps
  pub forms : HaveForms names ps

abbrev lefts : (names : Names) (written : List Bool) → List (Proved names written) → List LeftSide
lefts names written ws = map (λ (w : Proved names written). w.0) ws

joins : (names : Names) (written : List Bool) (ws : List (Proved names written)) → all_faults (senses names (map same_form (lefts names written ws))) ≡ [] → all_unsupported (plans names (map same_form (lefts names written ws))) ≡ [] → all_zeros (senses names (map same_form (lefts names written ws))) ≡ []
    → flat_map (part_refusals names written) (concatenated (map parts_of (lefts names written ws))) ≡ [] → Join names (map same_form (lefts names written ws)) (concatenated (map parts_of (lefts names written ws)))
joins names written [] whole supported zeros free = record { width = refl; can = tt; signals = tt; forms = tt }
joins names written (w ∷ ws) whole supported zeros free =
    let ps : List Part = parts_of w.0 in
    let qs : List Part = concatenated (map parts_of (lefts names written ws)) in
    let apart = sym (flat_map-append (part_refusals names written) ps qs) ∙ free in
    let here : Writes names (same_form w.0) ps = w.1 (left_nil _ _ whole) (left_nil _ _ supported) (left_nil _ _ zeros) (left_nil (flat_map (part_refusals names written) ps) (flat_map (part_refusals names written) qs) apart) in
    let more : Join names (map same_form (lefts names written ws)) qs = joins names written ws (right_nil _ _ whole) (right_nil _ _ supported) (right_nil _ _ zeros) (right_nil (flat_map (part_refusals names written) ps) (flat_map (part_refusals names written) qs) apart) in
    let es : List Expr = map same_form (lefts names written ws) in
    record {
      width = sum_width (sense names (same_form w.0)).shape.width (total_width (senses names es)) (parts_width names ps) (parts_width names qs) (parts_width names (ps ++ qs)) here.width more.width (width-append names ps qs);
      can = can_both names ps qs here.can more.can;
      signals = signals_both names ps qs here.signals more.signals;
      forms = forms_both names ps qs here.forms more.forms;
    }

right_join : (names : Names) (written : List Bool) (at : Span) (ws : List (Proved names written)) → IsRight names written (v.Concatenation at (map same_form (lefts names written ws))) (concatenated (map parts_of (lefts names written ws)))
right_join names written at ws whole supported zeros free =
    let es : List Expr = map same_form (lefts names written ws) in
    let e : Expr = v.Concatenation at es in
    let is = sense_concatenation names at es in
    let facts = whole_join names e at es refl whole in
    let none : all_zeros (senses names es) ≡ [] = sym (ap own_zeros is) ∙ zeros in
    let j = joins names written ws facts.parts (join_supported names e (sense names e).shape at es refl supported) none free in
    let width : (sense names e).shape.width ≡ total_width (senses names es) = ap (λ (x : Sense). x.shape.width) is in
    let narrow = facts.narrow in
    record { width = width ∙ j.width; narrow = omega (arith, width, narrow); can = j.can; signals = j.signals; forms = j.forms }

layer : (names : Names) (written : List Bool) (y : LeftSide-F (Proved names written)) → IsRight names written (form_step (map-LeftSide LeftSide Expr same_form (map-LeftSide (Proved names written) LeftSide (λ (w : Proved names written). w.0) y))) (parts_step (map-LeftSide LeftSide (List Part) parts_of (map-LeftSide (Proved names written) LeftSide (λ (w : Proved names written). w.0) y)))
layer names written (l.Name n) = right_name names written n
layer names written (l.BitSelect n at i) = right_bit names written n at i
layer names written (l.PartSelect n at msb lsb) = right_range names written n at msb lsb
layer names written (l.IndexedPartSelect n at base count) = right_indexed names written n at base count
layer names written (l.Concatenation at parts) = right_join names written at parts

-- what holds of the step holds of the left side
from_step : (names : Names) (written : List Bool) (x : LeftSide-F LeftSide) → IsRight names written (form_step (map-LeftSide LeftSide Expr same_form x)) (parts_step (map-LeftSide LeftSide (List Part) parts_of x)) → IsRight names written (same_form (roll-LeftSide x)) (parts_of (roll-LeftSide x))
from_step names written x h =
    subst (λ (e : Expr). IsRight names written e (parts_of (roll-LeftSide x))) (sym (fold-roll-LeftSide Expr form_step x))
    (subst (λ (ps : List Part). IsRight names written (form_step (map-LeftSide LeftSide Expr same_form x)) ps) (sym (fold-roll-LeftSide (List Part) parts_step x)) h)

pub left_writes : (names : Names) (written : List Bool) (left : LeftSide) → IsRight names written (same_form left) (parts_of left)
left_writes names written = ind-LeftSide (λ left. IsRight names written (same_form left) (parts_of left)) (λ x y is. from_step names written x (subst (λ (z : LeftSide-F LeftSide). IsRight names written (form_step (map-LeftSide LeftSide Expr same_form z)) (parts_step (map-LeftSide LeftSide (List Part) parts_of z))) is (layer names written y)))
