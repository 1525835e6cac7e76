-- Which bits a part of a left side of a net writes: where it can be told, among them all that it writes in any evaluation; and all of them are
-- bits of its signal.
use Rattle.tb_apart.proofs.Common.{◌≡◌, ◌⊎◌, inl, inr, zero, suc, ℕ, ◌-◌, ◌<◌, ◌≤◌, Bool, true, false, not, ◌&&◌, ◌||◌, nat_eq, nat_le, nat_lt, List, [], ◌∷◌, ◌++◌, map, refl, sym, ap, ◌∙◌, subst}
use Rattle.tb_apart.proofs.Common.{arith, ℤ, pos, negsuc, ◌+ℤ◌, Option, Some, None, if◌then◌else◌, Fault, Names, decl_shape, Bits, Sense, sense, name_bits, fault, or_else, constant_faults, is_empty}
use Rattle.tb_apart.proofs.Common.{is_fixed, stands_in, part_covers, Select, Whole, Bit, Range, Indexed, Part, Vector, vector_of, part_vector, bits_from, places, select_base, select_width, AreSized}
use Rattle.tb_apart.proofs.Common.{part_opens, Net, is_placed, form_of, is_told, bits_written, part_writes, some_below, meet_at, or_cases, or_left, or_right, and_from}
use Rattle.std.proofs.lemmas.Bool.Decides.{nat_tests}
use Rattle.vlog_meaning.specs.declared.fault.Cause.TheVariants.{DivideByZero}
use Rattle.vlog_meaning.specs.declared.scope.Decl.{Decl}
use Rattle.vlog_meaning.specs.declared.scope.Decl.TheVariants.{Signal, Constant}
use Rattle.vlog_meaning.specs.Operators.{IsSized}

pub both_true : (a b : Bool) → (a && b) ≡ true → (a ≡ true) × (b ≡ true)
both_true true true e = (refl, refl)
both_true true false e = absurd cc
both_true false b e = absurd cc

-- A bit that stands among the places of a vector is one of its bits.

one_within : (width low n i : ℕ) (rest : List (Option ℕ)) (b : Bool) → (nat_le low n && nat_lt (n - low) width) ≡ b → (stands_in rest i ≡ true → nat_lt i width ≡ true) → stands_in ((if b then Some (n - low) else None) ∷ rest) i ≡ true → nat_lt i width ≡ true
one_within width low n i rest false e more h = more h
one_within width low n i rest true e more h = go (nat_eq (n - low) i) refl h
  where
    inside : nat_lt (n - low) width ≡ true
    inside = (both_true (nat_le low n) (nat_lt (n - low) width) e).1

    go : (c : Bool) → nat_eq (n - low) i ≡ c → (c || stands_in rest i) ≡ true → nat_lt i width ≡ true
    go true is k = let same : n - low ≡ i = grind (arith, nat_tests) in subst (λ (x : ℕ). nat_lt x width ≡ true) same inside
    go false is k = more k

pub within : (v : Vector) (base : ℤ) (count i : ℕ) → stands_in (bits_from v base count) i ≡ true → nat_lt i v.width ≡ true
within v base zero i h = absurd cc
within v (pos n) (suc count) i h = one_within v.width v.low n i (bits_from v (pos n +ℤ pos 1) count) (nat_le v.low n && nat_lt (n - v.low) v.width) refl (within v (pos n +ℤ pos 1) count i) h
within v (negsuc n) (suc count) i h = within v (negsuc n +ℤ pos 1) count i h

-- A part that can be told writes what it covers, and leaves nothing open.

empty_start : (xs fs zs : List Fault) → is_empty (or_else (xs ++ fs) zs) ≡ true → is_empty xs ≡ true
empty_start [] fs zs e = refl
empty_start (x ∷ xs) fs zs e = absurd cc

reads_nothing : (a : Sense) → is_empty (constant_faults a) ≡ true → is_empty a.signals ≡ true
reads_nothing a e = empty_start a.signals a.faults (map (fault DivideByZero) (a.zeros a.shape)) e

placed_fixed : (names : Names) (s : Select) → is_placed names s ≡ true → is_fixed names s ≡ true
placed_fixed names Whole e = refl
placed_fixed names (Bit at i) e = reads_nothing (sense names i) e
placed_fixed names (Range at msb lsb) e = refl
placed_fixed names (Indexed at base count) e = reads_nothing (sense names base) e

told_fixed : (names : Names) (p : Part) → is_told names p ≡ true → is_fixed names p.select ≡ true
told_fixed names p told = placed_fixed names p.select (both_true (is_placed names p.select) (is_empty (sense names (form_of p)).faults) told).0

nothing_open : (b open_bits : Bool) → b ≡ true → (not b && open_bits) ≡ true → ⊥
nothing_open true o e h = absurd cc
nothing_open false o e h = absurd cc

pub part_reaches : (names : Names) (p : Part) (n i : ℕ) → is_told names p ≡ true → (part_covers names p (part_vector names p) n i || part_opens names p n i) ≡ true → part_writes names Net p n i ≡ true
part_reaches names p n i told h = ap (λ (t : Bool). bits_written names Net p t (part_vector names p) n i) told ∙ covers (or_cases (part_covers names p (part_vector names p) n i) (part_opens names p n i) h)
  where
    covers : (part_covers names p (part_vector names p) n i ≡ true) ⊎ (part_opens names p n i ≡ true) → part_covers names p (part_vector names p) n i ≡ true
    covers (inl e) = e
    covers (inr e) = absurd (nothing_open (is_fixed names p.select) (name_bits (names p.name.name) n i) (told_fixed names p told) e)

-- A bit that is written is one of the first 128 of the signal.

told_within : (names : Names) (p : Part) (told : Bool) (d : Option Decl) (n i : ℕ) → IsSized (decl_shape d) → bits_written names Net p told (vector_of d) n i ≡ true → (v : Vector) × ((vector_of d ≡ Some v) × (n ≡ v.number) × (i < 128))
told_within names p false d n i sized h = absurd cc
told_within names p true None n i sized h = absurd cc
told_within names p true (Some (Constant value low is_signed)) n i sized h = absurd cc
told_within names p true (Some (Signal width low is_signed number)) n i sized h =
    let v : Vector = record { number = number; width = width; low = low } in
    let parts = both_true (nat_eq n number) (is_fixed names p.select && stands_in (places names (λ m. 0) v p.select) i) h in
    let stands = (both_true (is_fixed names p.select) (stands_in (places names (λ m. 0) v p.select) i) parts.1).1 in
    let inside : nat_lt i width ≡ true = within v (select_base names (λ m. 0) v p.select) (select_width names v p.select) i stands in
    let narrow : width ≤ 128 = sized.narrow in
    (v, (refl, grind (arith, nat_tests), grind (arith, nat_tests)))

pub writes_within : (names : Names) (p : Part) (n i : ℕ) → AreSized names → part_writes names Net p n i ≡ true → (v : Vector) × ((part_vector names p ≡ Some v) × (n ≡ v.number) × (i < 128))
writes_within names p n i sized h = told_within names p (is_told names p) (names p.name.name) n i (sized p.name.name) h

-- Two sets that have a bit of a signal in common meet there.

some_yes : (n : ℕ) (f : ℕ → Bool) (i : ℕ) → i < n → f i ≡ true → some_below n f ≡ true
unfolding some_below
some_yes zero f i h e = absurd (omega arith)
some_yes (suc n) f i h e = go (nat_eq i n) refl (some_yes n f i)
  where
    go : (b : Bool) → nat_eq i n ≡ b → (i < n → f i ≡ true → some_below n f ≡ true) → (f n || some_below n f) ≡ true
    go true is later = let same : i ≡ n = grind (arith, nat_tests) in or_left (f n) (some_below n f) (ap f (sym same) ∙ e)
    go false is later = or_right (f n) (some_below n f) (later (grind (arith, nat_tests)) e)

pub meets : (these those : Bits) (o : Option Vector) (v : Vector) (n i : ℕ) → o ≡ Some v → n ≡ v.number → i < 128 → these n i ≡ true → those n i ≡ true → meet_at these those o ≡ true
meets these those o v n i is same h e f =
    let here : these v.number i ≡ true = ap (λ (k : ℕ). these k i) (sym same) ∙ e in
    let there : those v.number i ≡ true = ap (λ (k : ℕ). those k i) (sym same) ∙ f in
    ap (meet_at these those) is ∙ some_yes 128 (λ k. these v.number k && those v.number k) i h (and_from (these v.number i) (those v.number i) here there)
