-- The bits that a part of a left side names, as those from a place on.
use Rattle.signal_masks.proofs.Common.{◌≡◌, zero, suc, ℕ, ◌+◌, ◌-◌, ◌<◌, ◌≤◌, Bool, true, false, ◌&&◌, ◌||◌, nat_eq, nat_le, nat_lt, ℤ, pos, negsuc, ◌+ℤ◌, ◌-ℤ◌, List, [], ◌∷◌, ◌++◌, map, refl, sym}
use Rattle.signal_masks.proofs.Common.{ap, ◌∙◌, subst, arith, length, get_or, take, Option, Some, None, if◌then◌else◌, nat_tests, Span, Identifier, Expr, LeftSide, Decl, natural, IsSized, Names}
use Rattle.signal_masks.proofs.Common.{decl_low, decl_shape, sense, constant_integer, part_width, name_bits, part_bits, is_among, is_empty, IsWhole, Select, Whole, Bit, Range, Indexed, Part, Vector}
use Rattle.signal_masks.proofs.Common.{vector_of, select_base, select_width, bit_at, bits_from, places, parts_of, part_vector, concatenated, stands_in, is_fixed, part_covers, parts_cover, AreFit}
use Rattle.std.proofs.lemmas.Int.{ints}
use Rattle.vlog_syntax.specs.declared.left_side.LeftSide.TheVariants as lv
use Rattle.vlog_meaning.specs.declared.scope.Decl.TheVariants.{Signal, Constant}
use Rattle.vlog_effects.proofs.Folds.{parts-name, parts-bit, parts-range, parts-indexed, parts-concatenation}

-- an integer is this number
abbrev is_at : ℤ → ℕ → Bool
is_at (pos m) i = nat_eq m i
is_at (negsuc n) i = false

among_none : (f : ℤ) (i : ℕ) → is_among f 0 i ≡ false
among_none (pos m) i = grind (arith, nat_tests)
among_none (negsuc n) i = grind (arith, nat_tests)

among_more : (f : ℤ) (count i : ℕ) → (is_at f i || is_among (f +ℤ pos 1) count i) ≡ is_among f (suc count) i
among_more (pos m) count i = grind (arith, nat_tests)
among_more (negsuc zero) count i = grind (arith, nat_tests)
among_more (negsuc (suc k)) count i = grind (arith, nat_tests)

-- the bit at a place, before others
one_at : (width low n i : ℕ) (rest : List (Option ℕ)) (p q : Bool) → nat_le low n ≡ p → nat_lt (n - low) width ≡ q → stands_in ((if p && q then Some (n - low) else None) ∷ rest) i ≡ ((nat_lt i width && is_at (pos n -ℤ pos low) i) || stands_in rest i)
one_at width low n i rest true true e f =
    let z : pos n -ℤ pos low ≡ pos (n - low) = let h : low ≤ n = grind (arith, nat_tests) in omega (arith, ints) in
    ap (λ (b : Bool). b || stands_in rest i) (same ∙ ap (λ (y : ℤ). nat_lt i width && is_at y i) (sym z)) where
      same : nat_eq (n - low) i ≡ (nat_lt i width && nat_eq (n - low) i)
      same = grind (arith, nat_tests)
one_at width low n i rest true false e f =
    let z : pos n -ℤ pos low ≡ pos (n - low) = let h : low ≤ n = grind (arith, nat_tests) in omega (arith, ints) in
    ap (λ (b : Bool). b || stands_in rest i) (none ∙ ap (λ (y : ℤ). nat_lt i width && is_at y i) (sym z)) where
      none : false ≡ (nat_lt i width && nat_eq (n - low) i)
      none = grind (arith, nat_tests)
one_at width low n i rest false q e f =
    let z : pos n -ℤ pos low ≡ negsuc (low - 1 - n) = let h : n < low = grind (arith, nat_tests) in omega (arith, ints) in
    ap (λ (b : Bool). b || stands_in rest i) (none (nat_lt i width) ∙ ap (λ (y : ℤ). nat_lt i width && is_at y i) (sym z)) where
      none : (b : Bool) → false ≡ (b && false)
      none true = refl
      none false = refl

one_stands : (v : Vector) (base : ℤ) (rest : List (Option ℕ)) (i : ℕ) → stands_in (bit_at v base ∷ rest) i ≡ ((nat_lt i v.width && is_at (base -ℤ pos v.low) i) || stands_in rest i)
one_stands v (pos n) rest i = one_at v.width v.low n i rest (nat_le v.low n) (nat_lt (n - v.low) v.width) refl refl
one_stands v (negsuc n) rest i =
    let z : negsuc n -ℤ pos v.low ≡ negsuc (n + v.low) = omega (arith, ints) in
    ap (λ (b : Bool). b || stands_in rest i) (none (nat_lt i v.width) ∙ ap (λ (y : ℤ). nat_lt i v.width && is_at y i) (sym z)) where
      none : (b : Bool) → false ≡ (b && false)
      none true = refl
      none false = refl

pub parted : (w a b : Bool) → ((w && a) || (w && b)) ≡ (w && (a || b))
parted true a b = refl
parted false a b = refl

nothing_there : (w b : Bool) → b ≡ false → false ≡ (w && b)
nothing_there true b e = sym e
nothing_there false b e = refl

-- so many bits of a vector from a place on
pub stands : (v : Vector) (base : ℤ) (count i : ℕ) → stands_in (bits_from v base count) i ≡ (nat_lt i v.width && is_among (base -ℤ pos v.low) count i)
stands v base zero i = nothing_there (nat_lt i v.width) (is_among (base -ℤ pos v.low) 0 i) (among_none (base -ℤ pos v.low) i)
stands v base (suc count) i =
    let next : base +ℤ pos 1 -ℤ pos v.low ≡ base -ℤ pos v.low +ℤ pos 1 = omega (arith, ints) in
    one_stands v base (bits_from v (base +ℤ pos 1) count) i ∙
    ap (λ (b : Bool). (nat_lt i v.width && is_at (base -ℤ pos v.low) i) || b) (stands v (base +ℤ pos 1) count i ∙ ap (λ (f : ℤ). nat_lt i v.width && is_among f count i) next) ∙
    parted (nat_lt i v.width) (is_at (base -ℤ pos v.low) i) (is_among (base -ℤ pos v.low +ℤ pos 1) count i) ∙
    ap (λ (b : Bool). nat_lt i v.width && b) (among_more (base -ℤ pos v.low) count i)

-- Parts, by what their names are declared as.

on_left : (a b c : Bool) → (a && (b && c)) ≡ ((a && b) && c)
on_left true b c = refl
on_left false b c = refl

off : (a : Bool) → (a && false) ≡ false
off true = refl
off false = refl

pub or_end : (b : Bool) → (b || false) ≡ b
or_end true = refl
or_end false = refl

-- a part at a constant place
fixed_covers : (names : Names) (p : Part) (d : Option Decl) (base : ℤ) (size n i : ℕ) → is_fixed names p.select ≡ true → ((v : Vector) → select_base names (λ m. 0) v p.select ≡ base) → ((v : Vector) → select_width names v p.select ≡ size) → part_covers names p (vector_of d) n i ≡ part_bits d (base -ℤ pos (decl_low d)) size n i
fixed_covers names p None base size n i fixed at sized = refl
fixed_covers names p (Some (Constant value low is_signed)) base size n i fixed at sized = refl
fixed_covers names p (Some (Signal width low is_signed number)) base size n i fixed at sized =
    let v : Vector = record { number = number; width = width; low = low } in
    ap (λ (b : Bool). nat_eq n number && (b && stands_in (places names (λ m. 0) v p.select) i)) fixed ∙
    ap (λ (z : ℤ). nat_eq n number && stands_in (bits_from v z (select_width names v p.select)) i) (at v) ∙
    ap (λ (k : ℕ). nat_eq n number && stands_in (bits_from v base k) i) (sized v) ∙
    ap (λ (b : Bool). nat_eq n number && b) (stands v base size i) ∙
    on_left (nat_eq n number) (nat_lt i width) (is_among (base -ℤ pos low) size i)

whole_row : (width i : ℕ) → (nat_lt i width && (nat_le 0 i && nat_lt i (0 + width))) ≡ nat_lt i width
whole_row width i = grind (arith, nat_tests)

-- a whole name
whole_covers : (names : Names) (p : Part) (d : Option Decl) (n i : ℕ) → p.select ≡ Whole → part_covers names p (vector_of d) n i ≡ name_bits d n i
whole_covers names p None n i is = refl
whole_covers names p (Some (Constant value low is_signed)) n i is = refl
whole_covers names p (Some (Signal width low is_signed number)) n i is =
    let v : Vector = record { number = number; width = width; low = low } in
    let zero_off : pos low -ℤ pos low ≡ pos 0 = omega (arith, ints) in
    ap (λ (s : Select). nat_eq n number && (is_fixed names s && stands_in (places names (λ m. 0) v s) i)) is ∙
    ap (λ (b : Bool). nat_eq n number && b) (stands v (pos low) width i ∙ ap (λ (z : ℤ). nat_lt i width && is_among z width i) zero_off ∙ whole_row width i)

-- a part at a place that is no constant
other_covers : (names : Names) (p : Part) (d : Option Vector) (n i : ℕ) → is_fixed names p.select ≡ false → part_covers names p d n i ≡ false
other_covers names p None n i fixed = refl
other_covers names p (Some v) n i fixed = ap (λ (b : Bool). nat_eq n v.number && (b && stands_in (places names (λ m. 0) v p.select) i)) fixed ∙ off (nat_eq n v.number)

-- Left sides.

module _ (names : Names) (left : LeftSide) (n i : ℕ) (old new : Bool) where
  one_part : (p : Part) (b : Bool) → parts_of left ≡ p ∷ [] → part_covers names p (part_vector names p) n i ≡ b → new ≡ (old || b) → new ≡ (old || parts_cover names (parts_of left) n i)
  one_part p b parts covers e = e ∙ ap (λ (c : Bool). old || c) (sym (ap (λ (ps : List Part). parts_cover names ps n i) parts ∙ or_end (part_covers names p (part_vector names p) n i) ∙ covers))

  pub cover_name : (k : Identifier) → left ≡ lv.Name k → new ≡ (old || name_bits (names k.name) n i) → new ≡ (old || parts_cover names (parts_of left) n i)
  cover_name k is e = let p : Part = record { name = k; select = Whole } in one_part p (name_bits (names k.name) n i) (ap parts_of is ∙ parts-name k) (whole_covers names p (names k.name) n i refl) e

  pub cover_bit : (k : Identifier) (at : Span) (index : Expr) (place : ℤ) → left ≡ lv.BitSelect k at index → is_empty (sense names index).signals ≡ true → place ≡ constant_integer (sense names index) → new ≡ (old || part_bits (names k.name) (place -ℤ pos (decl_low (names k.name))) 1 n i) → new ≡ (old || parts_cover names (parts_of left) n i)
  cover_bit k at index place is fixed at_place e = let p : Part = record { name = k; select = Bit at index } in one_part p (part_bits (names k.name) (place -ℤ pos (decl_low (names k.name))) 1 n i) (ap parts_of is ∙ parts-bit k at index) (fixed_covers names p (names k.name) place 1 n i fixed (λ v. sym at_place) (λ v. refl)) e

  pub cover_part : (k : Identifier) (at : Span) (msb lsb : Expr) (place : ℤ) (size : ℕ) → left ≡ lv.PartSelect k at msb lsb → place ≡ constant_integer (sense names lsb) → size ≡ part_width (constant_integer (sense names msb)) (constant_integer (sense names lsb)) → new ≡ (old || part_bits (names k.name) (place -ℤ pos (decl_low (names k.name))) size n i) → new ≡ (old || parts_cover names (parts_of left) n i)
  cover_part k at msb lsb place size is at_place sized e = let p : Part = record { name = k; select = Range at msb lsb } in one_part p (part_bits (names k.name) (place -ℤ pos (decl_low (names k.name))) size n i) (ap parts_of is ∙ parts-range k at msb lsb) (fixed_covers names p (names k.name) place size n i refl (λ v. sym at_place) (λ v. sym sized)) e

  pub cover_indexed : (k : Identifier) (at : Span) (base count : Expr) (place : ℤ) (size : ℕ) → left ≡ lv.IndexedPartSelect k at base count → is_empty (sense names base).signals ≡ true → place ≡ constant_integer (sense names base) → size ≡ natural (constant_integer (sense names count)) → new ≡ (old || part_bits (names k.name) (place -ℤ pos (decl_low (names k.name))) size n i) → new ≡ (old || parts_cover names (parts_of left) n i)
  cover_indexed k at base count place size is fixed at_place sized e = let p : Part = record { name = k; select = Indexed at base count } in one_part p (part_bits (names k.name) (place -ℤ pos (decl_low (names k.name))) size n i) (ap parts_of is ∙ parts-indexed k at base count) (fixed_covers names p (names k.name) place size n i fixed (λ v. sym at_place) (λ v. sym sized)) e

  pub cover_bit_none : (k : Identifier) (at : Span) (index : Expr) → left ≡ lv.BitSelect k at index → is_empty (sense names index).signals ≡ false → new ≡ old → new ≡ (old || parts_cover names (parts_of left) n i)
  cover_bit_none k at index is fixed e = let p : Part = record { name = k; select = Bit at index } in one_part p false (ap parts_of is ∙ parts-bit k at index) (other_covers names p (part_vector names p) n i fixed) (e ∙ sym (or_end old))

  pub cover_indexed_none : (k : Identifier) (at : Span) (base count : Expr) → left ≡ lv.IndexedPartSelect k at base count → is_empty (sense names base).signals ≡ false → new ≡ old → new ≡ (old || parts_cover names (parts_of left) n i)
  cover_indexed_none k at base count is fixed e = let p : Part = record { name = k; select = Indexed at base count } in one_part p false (ap parts_of is ∙ parts-indexed k at base count) (other_covers names p (part_vector names p) n i fixed) (e ∙ sym (or_end old))

  pub cover_joined : (at : Span) (parts : List LeftSide) → left ≡ lv.Concatenation at parts → new ≡ (old || parts_cover names (concatenated (map parts_of parts)) n i) → new ≡ (old || parts_cover names (parts_of left) n i)
  cover_joined at parts is e = e ∙ ap (λ (ps : List Part). old || parts_cover names ps n i) (sym (ap parts_of is ∙ parts-concatenation at parts))

-- Several left sides.

pub covers_both : (names : Names) (xs ys : List Part) (n i : ℕ) → parts_cover names (xs ++ ys) n i ≡ (parts_cover names xs n i || parts_cover names ys n i)
covers_both names [] ys n i = refl
covers_both names (x ∷ xs) ys n i = ap (λ (b : Bool). part_covers names x (part_vector names x) n i || b) (covers_both names xs ys n i) ∙ after (part_covers names x (part_vector names x) n i) (parts_cover names xs n i) (parts_cover names ys n i) where
  after : (a b c : Bool) → (a || (b || c)) ≡ ((a || b) || c)
  after true b c = refl
  after false b c = refl

covers_take : (names : Names) (xs : List LeftSide) (k : ℕ) (x : LeftSide) (n i : ℕ) → x ≡ get_or xs k x → k < length xs → parts_cover names (concatenated (map parts_of (take (suc k) xs))) n i ≡ (parts_cover names (concatenated (map parts_of (take k xs))) n i || parts_cover names (parts_of x) n i)
covers_take names [] k x n i is h = absurd (omega arith)
covers_take names (y ∷ ys) zero x n i is h = covers_both names (parts_of y) [] n i ∙ or_end (parts_cover names (parts_of y) n i) ∙ ap (λ (z : LeftSide). parts_cover names (parts_of z) n i) (sym is)
covers_take names (y ∷ ys) (suc k) x n i is h =
    covers_both names (parts_of y) (concatenated (map parts_of (take (suc k) ys))) n i ∙
    ap (λ (b : Bool). parts_cover names (parts_of y) n i || b) (covers_take names ys k x n i is (omega arith)) ∙
    after (parts_cover names (parts_of y) n i) (parts_cover names (concatenated (map parts_of (take k ys))) n i) (parts_cover names (parts_of x) n i) ∙
    ap (λ (b : Bool). b || parts_cover names (parts_of x) n i) (sym (covers_both names (parts_of y) (concatenated (map parts_of (take k ys))) n i)) where
      after : (a b c : Bool) → (a || (b || c)) ≡ ((a || b) || c)
      after true b c = refl
      after false b c = refl

pub more_covers : (names : Names) (xs : List LeftSide) (k : ℕ) (x : LeftSide) (n i : ℕ) (old before after : Bool) → x ≡ get_or xs k x → k < length xs → before ≡ (old || parts_cover names (concatenated (map parts_of (take k xs))) n i) → after ≡ (before || parts_cover names (parts_of x) n i) → after ≡ (old || parts_cover names (concatenated (map parts_of (take (suc k) xs))) n i)
more_covers names xs k x n i old before after is h e f =
    f ∙ ap (λ (b : Bool). b || parts_cover names (parts_of x) n i) e ∙ onto old (parts_cover names (concatenated (map parts_of (take k xs))) n i) (parts_cover names (parts_of x) n i) ∙ ap (λ (b : Bool). old || b) (sym (covers_take names xs k x n i is h)) where
      onto : (a b c : Bool) → ((a || b) || c) ≡ (a || (b || c))
      onto true b c = refl
      onto false b c = refl

-- Parts that fit.

fit_left : (names : Names) (xs ys : List Part) → AreFit names (xs ++ ys) → AreFit names xs
fit_left names [] ys f = tt
fit_left names (x ∷ xs) ys f = (f.0, fit_left names xs ys f.1)

fit_right : (names : Names) (xs ys : List Part) → AreFit names (xs ++ ys) → AreFit names ys
fit_right names [] ys f = f
fit_right names (x ∷ xs) ys f = fit_right names xs ys f.1

pub fit_element : (names : Names) (xs : List LeftSide) (k : ℕ) (x : LeftSide) → x ≡ get_or xs k x → k < length xs → AreFit names (concatenated (map parts_of xs)) → AreFit names (parts_of x)
fit_element names [] k x is h f = absurd (omega arith)
fit_element names (y ∷ ys) zero x is h f = subst (λ (z : LeftSide). AreFit names (parts_of z)) (sym is) (fit_left names (parts_of y) (concatenated (map parts_of ys)) f)
fit_element names (y ∷ ys) (suc k) x is h f = fit_element names ys k x is (omega arith) (fit_right names (parts_of y) (concatenated (map parts_of ys)) f)

module _ (names : Names) (left : LeftSide) (f : AreFit names (parts_of left)) where
  of_parts : (ps : List Part) → parts_of left ≡ ps → AreFit names ps
  of_parts ps is = subst (AreFit names) is f

  pub fit_name : (k : Identifier) → left ≡ lv.Name k → IsSized (decl_shape (names k.name))
  fit_name k is = (of_parts _ (ap parts_of is ∙ parts-name k)).0.0

  pub bit_sized : (k : Identifier) (at : Span) (index : Expr) → left ≡ lv.BitSelect k at index → IsSized (decl_shape (names k.name))
  bit_sized k at index is = (of_parts _ (ap parts_of is ∙ parts-bit k at index)).0.0

  pub fit_bit : (k : Identifier) (at : Span) (index : Expr) → left ≡ lv.BitSelect k at index → IsWhole names index
  fit_bit k at index is = (of_parts _ (ap parts_of is ∙ parts-bit k at index)).0.1

  pub range_sized : (k : Identifier) (at : Span) (msb lsb : Expr) → left ≡ lv.PartSelect k at msb lsb → IsSized (decl_shape (names k.name))
  range_sized k at msb lsb is = (of_parts _ (ap parts_of is ∙ parts-range k at msb lsb)).0.0

  pub fit_range : (k : Identifier) (at : Span) (msb lsb : Expr) → left ≡ lv.PartSelect k at msb lsb → IsWhole names msb × IsWhole names lsb × (part_width (constant_integer (sense names msb)) (constant_integer (sense names lsb)) ≤ 128)
  fit_range k at msb lsb is = (of_parts _ (ap parts_of is ∙ parts-range k at msb lsb)).0.1

  pub indexed_sized : (k : Identifier) (at : Span) (base count : Expr) → left ≡ lv.IndexedPartSelect k at base count → IsSized (decl_shape (names k.name))
  indexed_sized k at base count is = (of_parts _ (ap parts_of is ∙ parts-indexed k at base count)).0.0

  pub fit_indexed : (k : Identifier) (at : Span) (base count : Expr) → left ≡ lv.IndexedPartSelect k at base count → IsWhole names base × IsWhole names count × (natural (constant_integer (sense names count)) ≤ 128)
  fit_indexed k at base count is = (of_parts _ (ap parts_of is ∙ parts-indexed k at base count)).0.1

  pub fit_joined : (at : Span) (parts : List LeftSide) → left ≡ lv.Concatenation at parts → AreFit names (concatenated (map parts_of parts))
  fit_joined at parts is = of_parts _ (ap parts_of is ∙ parts-concatenation at parts)
