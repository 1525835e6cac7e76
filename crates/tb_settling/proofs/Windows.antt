-- The updates of an assignment: what they depend on, and which bits they give values.
use Rattle.tb_settling.proofs.Common.{◌≡◌, zero, suc, ℕ, ◌+◌, ◌-◌, ◌/◌, ◌^◌, ◌<◌, ◌≤◌, min, ℤ, pos, negsuc, ◌-ℤ◌, Bool, true, false, not, ◌&&◌, ◌||◌, nat_eq, nat_le, nat_lt, List, [], ◌∷◌, ◌++◌, refl}
use Rattle.tb_settling.proofs.Common.{sym, ap, ◌∙◌, subst, ◌⊎◌, inl, inr, arith, nat_tests, eqb_tells, Lcg, Expr, Decl, Shape, integer, Agree, Names, Store, AreWithin, settled, indices_read, Update}
use Rattle.tb_settling.proofs.Common.{gives, some_gives, UpdatesRestOnReads, UpdatesStayInside, below_is, or_cases, or_left, or_right, and_from, cases_Bool, and-left, and-right, empty_is, these_agree}
use Rattle.tb_settling.proofs.Common.{those_agree}
use Rattle.std.specs.Prelude.{Option, Some, None}
use Rattle.vlog_meaning.specs.declared.scope.Decl.TheVariants.{Signal, Constant}
use Rattle.vlog_meaning.specs.Senses.{Sense, sense, index_of, assigned, is_among, is_empty, name_bits, IsWhole}
use Rattle.vlog_effects.specs.Latches.{index_reads, is_fixed, stands_in, part_covers, parts_cover}
use Rattle.vlog_effects.specs.LeftSides.{Select, Whole, Bit, Range, Indexed, Part, Vector, vector_of, part_vector, parts_of, parts_width, select_base, select_width, places}
use Rattle.tb_values.specs.Draws.{drawn}
use Rattle.tb_assigns.specs.Updates.{Window, index_drawn, base_drawn, window_drawn, windows_drawn, some_bits, clipped, window_update, total_size, updates_of, IsWholeSelect, AreParts}
use Rattle.tb_nets.specs.Lefts.{part_opens, parts_open, left_writes}
use Rattle.signal_masks.proofs.Placing.{stands}
use Rattle.tb_settling.proofs.Reading.{value_rests, quiet_at}
use Rattle.tb_settling.proofs.Sides.{sides_can}
use Rattle.std.proofs.lemmas.Map.Views.{exact_unsigned_eq}
use Rattle.tb_assigns.proofs.Checked.{same_vector}

-- What they depend on.

module _ (names : Names) (phase : ℕ) (u v : Store) (within : AreWithin names u) (within_too : AreWithin names v) where
  index_rests : (i : Expr) (g : Lcg) → IsWhole names i → Agree (sense names i).reads u v → index_drawn names phase u i g ≡ index_drawn names phase v i g
  index_rests i g whole agree = ap (λ (n : ℕ). (integer (sense names i).shape n, (drawn names phase i g).1)) (value_rests names phase i g whole u v within within_too agree (sense names i).shape)

  base_rests : (x : Vector) (s : Select) (g : Lcg) → IsWholeSelect names s → Agree (index_reads names s) u v → base_drawn names phase u x s g ≡ base_drawn names phase v x s g
  base_rests x Whole g whole agree = refl
  base_rests x (Bit at i) g whole agree = index_rests i g whole agree
  base_rests x (Range at msb lsb) g whole agree = refl
  base_rests x (Indexed at base count) g whole agree = index_rests base g whole.0 agree

  window_rests : (s : Select) (o : Option Vector) (g : Lcg) → IsWholeSelect names s → Agree (index_reads names s) u v → window_drawn names phase u s o g ≡ window_drawn names phase v s o g
  window_rests s None g whole agree = refl
  window_rests s (Some x) g whole agree =
      let made : ℤ × Lcg → List Window × Lcg = λ b. (record { vector = x; base = b.0; size = select_width names x s } ∷ [], b.1) in
      ap made (base_rests x s g whole agree)

  windows_rest : (ps : List Part) (g : Lcg) → AreParts names ps → Agree (indices_read names ps) u v → windows_drawn names phase u ps g ≡ windows_drawn names phase v ps g
  windows_rest [] g parts agree = refl
  windows_rest (p ∷ ps) g parts agree =
      let here : window_drawn names phase u p.select (part_vector names p) g ≡ window_drawn names phase v p.select (part_vector names p) g = window_rests p.select (part_vector names p) g parts.0.1.whole (these_agree (index_reads names p.select) (indices_read names ps) u v agree) in
      let a : List Window × Lcg = window_drawn names phase u p.select (part_vector names p) g in
      let rest : windows_drawn names phase u ps a.1 ≡ windows_drawn names phase v ps a.1 = windows_rest ps a.1 parts.1 (those_agree (index_reads names p.select) (indices_read names ps) u v agree) in
      let onto : List Window × Lcg → List Window × Lcg = λ r. (a.0 ++ r.0, r.1) in
      let whole : List Window × Lcg → List Window × Lcg = λ b. (b.0 ++ (windows_drawn names phase v ps b.1).0, (windows_drawn names phase v ps b.1).1) in
      ap onto rest ∙ ap whole here

pub updates_rest : UpdatesRestOnReads
updates_rest names phase a g can s t within within_too agree =
    let ps : List Part = parts_of a.left in
    let c : Shape = assigned (sense names a.value) (parts_width names ps) in
    let facts = sides_can names a can in
    let x : Sense × Lcg = drawn names phase a.value g in
    let value : x.0.value s c ≡ x.0.value t c = value_rests names phase a.value g facts.right s t within within_too (these_agree (sense names a.value).reads (indices_read names ps) s t agree) c in
    let windows : windows_drawn names phase s ps x.1 ≡ windows_drawn names phase t ps x.1 = windows_rest names phase s t within within_too ps x.1 facts.parts (those_agree (sense names a.value).reads (indices_read names ps) s t agree) in
    let by_windows : List Window × Lcg → List Update × Lcg = λ w. (updates_of w.0 (x.0.value s c), w.1) in
    let by_value : ℕ → List Update × Lcg = λ n. (updates_of (windows_drawn names phase t ps x.1).0 n, (windows_drawn names phase t ps x.1).1) in
    ap by_windows windows ∙ ap by_value value

-- Which bits they give values.

le_is : (a b : ℕ) → nat_le a b ≡ true → a ≤ b
le_is a b h = grind (arith, nat_tests)

lt_is : (a b : ℕ) → nat_lt a b ≡ true → a < b
lt_is a b h = grind (arith, nat_tests)

is_le : (a b : ℕ) → a ≤ b → nat_le a b ≡ true
is_le a b h = grind (arith, nat_tests)

number_is : (n k : ℕ) → n ≡ k → nat_eq n k ≡ true
number_is n k e = elim (eqb_tells n k) [ inl same ↦ same.0 | inr other ↦ absurd (other.1 e) ]

none_true : (false ≡ true) → ⊥
none_true e = absurd cc

-- an update of some bits gives these
bits_in_row : (signal low m v n i : ℕ) → some_gives (some_bits signal low m v) n i ≡ true → (n ≡ signal) × (low ≤ i) × (i < low + m)
bits_in_row signal low zero v n i h = absurd (none_true h)
bits_in_row signal low (suc m) v n i h = elim (or_cases (nat_eq n signal && (nat_le low i && nat_lt i (low + suc m))) false h) [
  | inl here ↦
      let place = and-right (nat_eq n signal) (nat_le low i && nat_lt i (low + suc m)) here in
      (exact_unsigned_eq n signal (and-left (nat_eq n signal) (nat_le low i && nat_lt i (low + suc m)) here), le_is low i (and-left (nat_le low i) (nat_lt i (low + suc m)) place), lt_is i (low + suc m) (and-right (nat_le low i) (nat_lt i (low + suc m)) place))
  | inr none ↦ absurd (none_true none)
]

clipped_in : (x : Vector) (z : ℤ) (size v n i : ℕ) → some_gives (clipped x z size v) n i ≡ true → (n ≡ x.number) × (i < x.width) × (is_among z size i ≡ true)
clipped_in x (pos at) size v n i h =
    let row = bits_in_row x.number at (min size (x.width - at)) v n i h in
    let from = row.1 in
    let below = row.2 in
    (row.0, omega (arith, from, below), and_from (nat_le at i) (nat_lt i (at + size)) (is_le at i from) (below_is i (at + size) (omega (arith, from, below))))
clipped_in x (negsuc k) size v n i h =
    let row = bits_in_row x.number 0 (min (size - (k + 1)) x.width) (v / 2 ^ (k + 1)) n i h in
    let below = row.2 in
    (row.0, omega (arith, below), below_is (i + (k + 1)) size (omega (arith, below)))

-- the bit is one of a window, and of one of several
record InWindow (w : Window) (n i : ℕ) : Type 0 where
  number : n ≡ w.vector.number
  inside : i < w.vector.width
  among : is_among (w.base -ℤ pos w.vector.low) w.size i ≡ true

abbrev InSome : List Window → ℕ → ℕ → Type 0
InSome [] n i = ⊥
InSome (w ∷ ws) n i = InWindow w n i ⊎ InSome ws n i

gives_append : (us vs : List Update) (n i : ℕ) → some_gives (us ++ vs) n i ≡ true → (some_gives us n i ≡ true) ⊎ (some_gives vs n i ≡ true)
gives_append [] vs n i h = inr h
gives_append (u ∷ us) vs n i h = elim (or_cases (gives u n i) (some_gives (us ++ vs) n i) h) [
  | inl here ↦ inl (or_left (gives u n i) (some_gives us n i) here)
  | inr later ↦ elim (gives_append us vs n i later) [ inl a ↦ inl (or_right (gives u n i) (some_gives us n i) a) | inr b ↦ inr b ]
]

updates_in : (ws : List Window) (v n i : ℕ) → some_gives (updates_of ws v) n i ≡ true → InSome ws n i
updates_in [] v n i h = none_true h
updates_in (w ∷ ws) v n i h = elim (gives_append (updates_of ws v) (window_update w (v / 2 ^ total_size ws)) n i h) [
  | inl later ↦ inr (updates_in ws v n i later)
  | inr here ↦
      let facts = clipped_in w.vector (w.base -ℤ pos w.vector.low) w.size (v / 2 ^ total_size ws) n i here in
      inl (record { number = facts.0; inside = facts.1; among = facts.2 })
]

in_append : (ws us : List Window) (n i : ℕ) → InSome (ws ++ us) n i → InSome ws n i ⊎ InSome us n i
in_append [] us n i h = inr h
in_append (w ∷ ws) us n i h = elim h [
  | inl here ↦ inl (inl here)
  | inr later ↦ elim (in_append ws us n i later) [ inl a ↦ inl (inr a) | inr b ↦ inr b ]
]

-- a constant place
constant_index : (names : Names) (phase : ℕ) (store : Store) (i : Expr) (g : Lcg) → is_empty (sense names i).signals ≡ true → (index_drawn names phase store i g).0 ≡ index_of (λ m. 0) (sense names i)
constant_index names phase store i g fixed =
    let quiet : (sense names i).signals ≡ [] = empty_is (sense names i).signals fixed in
    ap (λ (d : Sense). integer (sense names i).shape (d.value store (sense names i).shape)) (quiet_at names phase i g quiet) ∙ ap (integer (sense names i).shape) (settled names i quiet store (sense names i).shape)

fixed_base : (names : Names) (phase : ℕ) (store : Store) (x : Vector) (s : Select) (g : Lcg) → is_fixed names s ≡ true → (base_drawn names phase store x s g).0 ≡ select_base names (λ m. 0) x s
fixed_base names phase store x Whole g fixed = refl
fixed_base names phase store x (Bit at i) g fixed = constant_index names phase store i g fixed
fixed_base names phase store x (Range at msb lsb) g fixed = refl
fixed_base names phase store x (Indexed at base count) g fixed = constant_index names phase store base g fixed

named_bit : (d : Option Decl) (x : Vector) (n i : ℕ) → vector_of d ≡ Some x → n ≡ x.number → i < x.width → name_bits d n i ≡ true
named_bit (Some (Signal width low is_signed number)) x n i is at below =
    let same : record { number = number; width = width; low = low } ≡ x = same_vector (record { number = number; width = width; low = low }) x is in
    let number_same : number ≡ x.number = ap (λ (y : Vector). y.number) same in
    let width_same : width ≡ x.width = ap (λ (y : Vector). y.width) same in
    and_from (nat_eq n number) (nat_lt i width) (number_is n number (at ∙ sym number_same)) (below_is i width (omega (arith, below, width_same)))
named_bit (Some (Constant value low is_signed)) x n i is at below = absurd cc
named_bit None x n i is at below = absurd cc

part_write : (names : Names) (phase : ℕ) (store : Store) (p : Part) (g : Lcg) (n i : ℕ) (o : Option Vector) → part_vector names p ≡ o → InSome (window_drawn names phase store p.select o g).0 n i → (part_covers names p o n i ≡ true) ⊎ (part_opens names p n i ≡ true)
part_write names phase store p g n i None is h = absurd h
part_write names phase store p g n i (Some x) is h = elim h [
  | inr none ↦ absurd none
  | inl here ↦ elim (cases_Bool (is_fixed names p.select)) [
    | inl fixed ↦
        let base = fixed_base names phase store x p.select g fixed in
        let size : ℕ = select_width names x p.select in
        let among : is_among (select_base names (λ m. 0) x p.select -ℤ pos x.low) size i ≡ true = subst (λ (z : ℤ). is_among (z -ℤ pos x.low) size i ≡ true) base here.among in
        let there : stands_in (places names (λ m. 0) x p.select) i ≡ true = stands x (select_base names (λ m. 0) x p.select) size i ∙ and_from (nat_lt i x.width) (is_among (select_base names (λ m. 0) x p.select -ℤ pos x.low) size i) (below_is i x.width here.inside) among in
        inl (and_from (nat_eq n x.number) (is_fixed names p.select && stands_in (places names (λ m. 0) x p.select) i) (number_is n x.number here.number) (and_from (is_fixed names p.select) (stands_in (places names (λ m. 0) x p.select) i) fixed there))
    | inr open_ ↦ inr (and_from (not (is_fixed names p.select)) (name_bits (names p.name.name) n i) (ap not open_) (named_bit (names p.name.name) x n i is here.number here.inside))
  ]
]

parts_write : (names : Names) (phase : ℕ) (store : Store) (ps : List Part) (g : Lcg) (n i : ℕ) → InSome (windows_drawn names phase store ps g).0 n i → left_writes names ps n i ≡ true
parts_write names phase store [] g n i h = absurd h
parts_write names phase store (p ∷ ps) g n i h =
    let a : List Window × Lcg = window_drawn names phase store p.select (part_vector names p) g in
    let c : Bool = part_covers names p (part_vector names p) n i in
    let cs : Bool = parts_cover names ps n i in
    let o : Bool = part_opens names p n i in
    let os : Bool = parts_open names ps n i in
    elim (in_append a.0 (windows_drawn names phase store ps a.1).0 n i h) [
      | inl here ↦ elim (part_write names phase store p g n i (part_vector names p) refl here) [
        | inl covers ↦ or_left (c || cs) (o || os) (or_left c cs covers)
        | inr opens ↦ or_right (c || cs) (o || os) (or_left o os opens)
      ]
      | inr later ↦ elim (or_cases cs os (parts_write names phase store ps a.1 n i later)) [
        | inl covers ↦ or_left (c || cs) (o || os) (or_right c cs covers)
        | inr opens ↦ or_right (c || cs) (o || os) (or_right o os opens)
      ]
    ]

pub stay_inside : UpdatesStayInside
stay_inside names phase a g s n i h =
    let ps : List Part = parts_of a.left in
    let x : Sense × Lcg = drawn names phase a.value g in
    let v : ℕ = x.0.value s (assigned (sense names a.value) (parts_width names ps)) in
    parts_write names phase s ps x.1 n i (updates_in (windows_drawn names phase s ps x.1).0 v n i h)
