-- What the indices of left sides read.
use Rattle.signal_masks.proofs.Common.{◌≡◌, zero, suc, ℕ, ◌<◌, Bool, true, false, ◌||◌, List, [], ◌∷◌, ◌++◌, map, refl, sym, ap, ◌∙◌, arith, length, get_or, take, Span, Identifier, Expr, LeftSide}
use Rattle.signal_masks.proofs.Common.{Names, sense, Whole, Bit, Range, Indexed, Part, parts_of, concatenated, index_reads, indices_read}
use Rattle.vlog_syntax.specs.declared.left_side.LeftSide.TheVariants as lv
use Rattle.vlog_effects.proofs.Folds.{parts-name, parts-bit, parts-range, parts-indexed, parts-concatenation}
use Rattle.signal_masks.proofs.Placing.{or_end}

module _ (names : Names) (left : LeftSide) (n i : ℕ) (old new : Bool) where
  one_part : (p : Part) (b : Bool) → parts_of left ≡ p ∷ [] → index_reads names p.select n i ≡ b → new ≡ (old || b) → new ≡ (old || indices_read names (parts_of left) n i)
  one_part p b parts reads e = e ∙ ap (λ (c : Bool). old || c) (sym (ap (λ (ps : List Part). indices_read names ps n i) parts ∙ or_end (index_reads names p.select n i) ∙ reads))

  pub index_name : (k : Identifier) → left ≡ lv.Name k → new ≡ old → new ≡ (old || indices_read names (parts_of left) n i)
  index_name k is e = let p : Part = record { name = k; select = Whole } in one_part p false (ap parts_of is ∙ parts-name k) refl (e ∙ sym (or_end old))

  pub index_range : (k : Identifier) (at : Span) (msb lsb : Expr) → left ≡ lv.PartSelect k at msb lsb → new ≡ old → new ≡ (old || indices_read names (parts_of left) n i)
  index_range k at msb lsb is e = let p : Part = record { name = k; select = Range at msb lsb } in one_part p false (ap parts_of is ∙ parts-range k at msb lsb) refl (e ∙ sym (or_end old))

  pub index_bit : (k : Identifier) (at : Span) (index : Expr) → left ≡ lv.BitSelect k at index → new ≡ (old || (sense names index).reads n i) → new ≡ (old || indices_read names (parts_of left) n i)
  index_bit k at index is e = let p : Part = record { name = k; select = Bit at index } in one_part p ((sense names index).reads n i) (ap parts_of is ∙ parts-bit k at index) refl e

  pub index_indexed : (k : Identifier) (at : Span) (base count : Expr) → left ≡ lv.IndexedPartSelect k at base count → new ≡ (old || (sense names base).reads n i) → new ≡ (old || indices_read names (parts_of left) n i)
  index_indexed k at base count is e = let p : Part = record { name = k; select = Indexed at base count } in one_part p ((sense names base).reads n i) (ap parts_of is ∙ parts-indexed k at base count) refl e

  pub index_joined : (at : Span) (parts : List LeftSide) → left ≡ lv.Concatenation at parts → new ≡ (old || indices_read names (concatenated (map parts_of parts)) n i) → new ≡ (old || indices_read names (parts_of left) n i)
  index_joined at parts is e = e ∙ ap (λ (ps : List Part). old || indices_read names ps n i) (sym (ap parts_of is ∙ parts-concatenation at parts))

pub after : (a b c : Bool) → (a || (b || c)) ≡ ((a || b) || c)
after true b c = refl
after false b c = refl

pub read_both : (names : Names) (xs ys : List Part) (n i : ℕ) → indices_read names (xs ++ ys) n i ≡ (indices_read names xs n i || indices_read names ys n i)
read_both names [] ys n i = refl
read_both names (x ∷ xs) ys n i = ap (λ (b : Bool). index_reads names x.select n i || b) (read_both names xs ys n i) ∙ after (index_reads names x.select n i) (indices_read names xs n i) (indices_read names ys n i)

read_take : (names : Names) (xs : List LeftSide) (k : ℕ) (x : LeftSide) (n i : ℕ) → x ≡ get_or xs k x → k < length xs → indices_read names (concatenated (map parts_of (take (suc k) xs))) n i ≡ (indices_read names (concatenated (map parts_of (take k xs))) n i || indices_read names (parts_of x) n i)
read_take names [] k x n i is h = absurd (omega arith)
read_take names (y ∷ ys) zero x n i is h = read_both names (parts_of y) [] n i ∙ or_end (indices_read names (parts_of y) n i) ∙ ap (λ (z : LeftSide). indices_read names (parts_of z) n i) (sym is)
read_take names (y ∷ ys) (suc k) x n i is h =
    read_both names (parts_of y) (concatenated (map parts_of (take (suc k) ys))) n i ∙
    ap (λ (b : Bool). indices_read names (parts_of y) n i || b) (read_take names ys k x n i is (omega arith)) ∙
    after (indices_read names (parts_of y) n i) (indices_read names (concatenated (map parts_of (take k ys))) n i) (indices_read names (parts_of x) n i) ∙
    ap (λ (b : Bool). b || indices_read names (parts_of x) n i) (sym (read_both names (parts_of y) (concatenated (map parts_of (take k ys))) n i))

pub more_indices : (names : Names) (xs : List LeftSide) (k : ℕ) (x : LeftSide) (n i : ℕ) (old before now : Bool) → x ≡ get_or xs k x → k < length xs → before ≡ (old || indices_read names (concatenated (map parts_of (take k xs))) n i) → now ≡ (before || indices_read names (parts_of x) n i) → now ≡ (old || indices_read names (concatenated (map parts_of (take (suc k) xs))) n i)
more_indices names xs k x n i old before now is h e f =
    f ∙ ap (λ (b : Bool). b || indices_read names (parts_of x) n i) e ∙ sym (after old (indices_read names (concatenated (map parts_of (take k xs))) n i) (indices_read names (parts_of x) n i)) ∙ ap (λ (b : Bool). old || b) (sym (read_take names xs k x n i is h))
