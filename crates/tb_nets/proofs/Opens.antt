-- Which bits are written where the place of a select is no constant.
use Rattle.tb_nets.proofs.Common.{◌≡◌, zero, suc, ℕ, ◌<◌, Bool, true, false, not, ◌&&◌, ◌||◌, List, [], ◌∷◌, ◌++◌, map, refl, sym, ap, ◌∙◌, subst, arith, length, get_or, take, Names, decl_shape}
use Rattle.tb_nets.proofs.Common.{sense, is_empty, name_bits, Whole, Bit, Range, Indexed, Part, parts_of, concatenated, part_opens, parts_open, after, or_end}
use Rattle.std.specs.Prelude.{Option, Some, None}
use Rattle.std.specs.Option.{is_none}
use Rattle.mcy_base.specs.declared.span.Span.{Span}
use Rattle.vlog_syntax.specs.declared.identifier.Identifier.{Identifier}
use Rattle.vlog_syntax.specs.declared.expr.Expr.{Expr}
use Rattle.vlog_syntax.specs.declared.left_side.LeftSide.{LeftSide}
use Rattle.vlog_syntax.specs.declared.left_side.LeftSide.TheVariants as lv
use Rattle.vlog_meaning.specs.declared.fault.Fault.{Fault}
use Rattle.vlog_meaning.specs.Answers.{least}
use Rattle.vlog_meaning.specs.Operators.{IsSized}
use Rattle.vlog_meaning.proofs.Firsts.{least_none}
use Rattle.vlog_meaning.proofs.Refusals.{least_empty}
use Rattle.vlog_effects.proofs.Folds.{parts-name, parts-bit, parts-range, parts-indexed, parts-concatenation}
use Rattle.signal_masks.specs.Parts.{AreFit}

pub none_read : (xs : List Fault) (o : Option Fault) (b : Bool) → o ≡ least xs → b ≡ is_none o → b ≡ is_empty xs
none_read [] o b is test = test ∙ ap is_none (is ∙ sym least_empty)
none_read (x ∷ xs) o b is test = go o is test
  where
    go : (o : Option Fault) → o ≡ least (x ∷ xs) → b ≡ is_none o → b ≡ false
    go (Some f) is test = test
    go None is test = let none = least_none _ (sym is) in cc

pub opened : (test bits old new : Bool) → test ≡ false → new ≡ (old || bits) → new ≡ (old || (not test && bits))
opened false bits old new e f = f
opened true bits old new e f = absurd cc

pub closed : (test bits old : Bool) → test ≡ true → old ≡ (old || (not test && bits))
closed true bits old e = sym (or_end old)
closed false bits old e = absurd cc

module _ (names : Names) (left : LeftSide) (n i : ℕ) (old new : Bool) where
  one_part : (p : Part) (b : Bool) → parts_of left ≡ p ∷ [] → part_opens names p n i ≡ b → new ≡ (old || b) → new ≡ (old || parts_open names (parts_of left) n i)
  one_part p b parts opens e = e ∙ ap (λ (c : Bool). old || c) (sym (ap (λ (ps : List Part). parts_open names ps n i) parts ∙ or_end (part_opens names p n i) ∙ opens))

  pub open_name : (k : Identifier) → left ≡ lv.Name k → new ≡ old → new ≡ (old || parts_open names (parts_of left) n i)
  open_name k is e = let p : Part = record { name = k; select = Whole } in one_part p false (ap parts_of is ∙ parts-name k) refl (e ∙ sym (or_end old))

  pub open_range : (k : Identifier) (at : Span) (msb lsb : Expr) → left ≡ lv.PartSelect k at msb lsb → new ≡ old → new ≡ (old || parts_open names (parts_of left) n i)
  open_range k at msb lsb is e = let p : Part = record { name = k; select = Range at msb lsb } in one_part p false (ap parts_of is ∙ parts-range k at msb lsb) refl (e ∙ sym (or_end old))

  pub open_bit : (k : Identifier) (at : Span) (index : Expr) → left ≡ lv.BitSelect k at index → new ≡ (old || (not (is_empty (sense names index).signals) && name_bits (names k.name) n i)) → new ≡ (old || parts_open names (parts_of left) n i)
  open_bit k at index is e = let p : Part = record { name = k; select = Bit at index } in one_part p (not (is_empty (sense names index).signals) && name_bits (names k.name) n i) (ap parts_of is ∙ parts-bit k at index) refl e

  pub open_indexed : (k : Identifier) (at : Span) (base count : Expr) → left ≡ lv.IndexedPartSelect k at base count → new ≡ (old || (not (is_empty (sense names base).signals) && name_bits (names k.name) n i)) → new ≡ (old || parts_open names (parts_of left) n i)
  open_indexed k at base count is e = let p : Part = record { name = k; select = Indexed at base count } in one_part p (not (is_empty (sense names base).signals) && name_bits (names k.name) n i) (ap parts_of is ∙ parts-indexed k at base count) refl e

  pub open_joined : (at : Span) (parts : List LeftSide) → left ≡ lv.Concatenation at parts → new ≡ (old || parts_open names (concatenated (map parts_of parts)) n i) → new ≡ (old || parts_open names (parts_of left) n i)
  open_joined at parts is e = e ∙ ap (λ (ps : List Part). old || parts_open names ps n i) (sym (ap parts_of is ∙ parts-concatenation at parts))

open_both : (names : Names) (xs ys : List Part) (n i : ℕ) → parts_open names (xs ++ ys) n i ≡ (parts_open names xs n i || parts_open names ys n i)
open_both names [] ys n i = refl
open_both names (x ∷ xs) ys n i = ap (λ (b : Bool). part_opens names x n i || b) (open_both names xs ys n i) ∙ after (part_opens names x n i) (parts_open names xs n i) (parts_open names ys n i)

open_take : (names : Names) (xs : List LeftSide) (k : ℕ) (x : LeftSide) (n i : ℕ) → x ≡ get_or xs k x → k < length xs → parts_open names (concatenated (map parts_of (take (suc k) xs))) n i ≡ (parts_open names (concatenated (map parts_of (take k xs))) n i || parts_open names (parts_of x) n i)
open_take names [] k x n i is h = absurd (omega arith)
open_take names (y ∷ ys) zero x n i is h = open_both names (parts_of y) [] n i ∙ or_end (parts_open names (parts_of y) n i) ∙ ap (λ (z : LeftSide). parts_open names (parts_of z) n i) (sym is)
open_take names (y ∷ ys) (suc k) x n i is h =
    open_both names (parts_of y) (concatenated (map parts_of (take (suc k) ys))) n i ∙
    ap (λ (b : Bool). parts_open names (parts_of y) n i || b) (open_take names ys k x n i is (omega arith)) ∙
    after (parts_open names (parts_of y) n i) (parts_open names (concatenated (map parts_of (take k ys))) n i) (parts_open names (parts_of x) n i) ∙
    ap (λ (b : Bool). b || parts_open names (parts_of x) n i) (sym (open_both names (parts_of y) (concatenated (map parts_of (take k ys))) n i))

pub more_open : (names : Names) (xs : List LeftSide) (k : ℕ) (x : LeftSide) (n i : ℕ) (old before now : Bool) → x ≡ get_or xs k x → k < length xs → before ≡ (old || parts_open names (concatenated (map parts_of (take k xs))) n i) → now ≡ (before || parts_open names (parts_of x) n i) → now ≡ (old || parts_open names (concatenated (map parts_of (take (suc k) xs))) n i)
more_open names xs k x n i old before now is h e f =
    f ∙ ap (λ (b : Bool). b || parts_open names (parts_of x) n i) e ∙ sym (after old (parts_open names (concatenated (map parts_of (take k xs))) n i) (parts_open names (parts_of x) n i)) ∙ ap (λ (b : Bool). old || b) (sym (open_take names xs k x n i is h))

-- Parts that fit.

module _ (names : Names) (left : LeftSide) (f : AreFit names (parts_of left)) where
  of_parts : (ps : List Part) → parts_of left ≡ ps → AreFit names ps
  of_parts ps is = subst (AreFit names) is f

  pub bit_sized : (k : Identifier) (at : Span) (index : Expr) → left ≡ lv.BitSelect k at index → IsSized (decl_shape (names k.name))
  bit_sized k at index is = (of_parts _ (ap parts_of is ∙ parts-bit k at index)).0.0

  pub indexed_sized : (k : Identifier) (at : Span) (base count : Expr) → left ≡ lv.IndexedPartSelect k at base count → IsSized (decl_shape (names k.name))
  indexed_sized k at base count is = (of_parts _ (ap parts_of is ∙ parts-indexed k at base count)).0.0

  pub fit_joined : (at : Span) (parts : List LeftSide) → left ≡ lv.Concatenation at parts → AreFit names (concatenated (map parts_of parts))
  fit_joined at parts is = of_parts _ (ap parts_of is ∙ parts-concatenation at parts)
