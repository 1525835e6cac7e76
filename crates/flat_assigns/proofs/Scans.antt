-- Parts that are kept, one after the other.
use Rattle.flat_assigns.proofs.Common.{◌≡◌, ℕ, zero, suc, ◌+◌, ◌<◌, ◌≤◌, List, [], ◌∷◌, ◌++◌, map, length, take, drop, get_or, false, Option, None, refl, sym, ap, ◌∙◌, subst, arith, drop-cons}
use Rattle.flat_assigns.proofs.Common.{slice_index_or, flat_map, append-nil, map-append, length-append, length-map, take_more, flat_map-append, Bit, LeftSide, Fault, least, earlier, Names, pair_first}
use Rattle.flat_assigns.proofs.Common.{least_empty, Part, concatenated, parts_of, length-bits_from, Building, Kept, IsJoinedTo, IsInside, AllInside, IsScanned, bit_in, first_bits, slice_of, slices_of}
use Rattle.flat_assigns.proofs.Common.{vector_in, Slice, all_places, own_slices, placed, slice_places, slices, target_faults, Target, bit_targets, targets, append_assoc}
use Rattle.elab_proc.proofs.Lists.{parts_take}
use Rattle.flat_assigns.proofs.Bits.{first_more}
use Rattle.flat_assigns.proofs.Joins.{joined_then}

-- Parts that are inside a builder.

pub inside_push : (b : Building) (xs : List Kept) (s : Kept) → AllInside b xs → IsInside b s → AllInside b (xs ++ s ∷ [])
inside_push b [] s h i = (i, tt)
inside_push b (x ∷ xs) s h i = (h.0, inside_push b xs s h.1 i)

pub inside_at : (b : Building) (xs : List Kept) (k : ℕ) (d : Kept) → AllInside b xs → k < length xs → IsInside b (get_or xs k d)
inside_at b [] k d h less = absurd (omega arith)
inside_at b (x ∷ xs) zero d h less = h.0
inside_at b (x ∷ xs) (suc k) d h less = inside_at b xs k d h.1 (omega arith)

pub part_same : (old new : Building) (s : Kept) → new.signals ≡ old.signals → IsInside old s → IsInside new s
part_same old new s same h =
    let P : List (List Bit) → Type 0 = λ l. (s.signal < length l) × (length (slice_index_or l s.signal []) ≡ s.width) in
    subst P (sym same) h

pub all_same : (old new : Building) (xs : List Kept) → new.signals ≡ old.signals → AllInside old xs → AllInside new xs
all_same old new [] same h = tt
all_same old new (x ∷ xs) same h = (part_same old new x same h.0, all_same old new xs same h.1)

-- what stands in the place of a part that is not there
abbrev pub no_part : Kept
no_part = record { span = record { file = 0; line = 0; col = 0 }; signal = 0; width = 0; low = 0; base = record { is_negative = false; magnitude = 0 }; size = 0 }

-- Left sides one after the other.

pub scanned_none : (names : Names) (xs : List Kept) → IsScanned names xs xs [] None
scanned_none names xs = record { first = least_empty; slices = sym (append-nil (slices_of xs)); inside = λ b has h. h }

then_scanned : (names : Names) (a b c : List Kept) (ps qs : List Part) (f g h : Option Fault) → IsScanned names a b ps f → IsScanned names b c qs g → h ≡ earlier f g → IsScanned names a c (ps ++ qs) h
then_scanned names a b c ps qs f g h first next is = record {
  first = pair_first (flat_map (target_faults names) ps) (flat_map (target_faults names) qs) f g h is first.first next.first ∙ ap least (sym (flat_map-append (target_faults names) ps qs));
  slices = next.slices ∙ ap (λ (l : List Slice). l ++ slices names qs) first.slices ∙ append_assoc (slices_of a) (slices names ps) (slices names qs) ∙ ap (λ (l : List Slice). slices_of a ++ l) (sym (flat_map-append (own_slices names) ps qs));
  inside = λ b has h. next.inside b has (first.inside b has h);
}

pub scanned_more : (names : Names) (a b c : List Kept) (parts : List LeftSide) (k : ℕ) (x : LeftSide) (f g h : Option Fault) → x ≡ get_or parts k x → k < length parts → IsScanned names a b (concatenated (map parts_of (take k parts))) f → IsScanned names b c (parts_of x) g → h ≡ earlier f g
    → IsScanned names a c (concatenated (map parts_of (take (suc k) parts))) h
scanned_more names a b c parts k x f g h at less first next is =
    subst (λ (ps : List Part). IsScanned names a c ps h) (sym (parts_take parts k x at less)) (then_scanned names a b c (concatenated (map parts_of (take k parts))) (parts_of x) f g h first next is)

-- Widths.

pub long_slice : (s : Kept) → length (slice_places (slice_of s)) ≡ s.size
long_slice s = length-map (first_bits s s.size) (placed s.signal) ∙ length-bits_from (vector_in s) _ s.size

pub places_left : (xs : List Kept) (k : ℕ) → length (all_places (slices_of (drop k xs))) ≤ length (all_places (slices_of xs))
places_left [] zero = omega arith
places_left [] (suc k) = omega arith
places_left (x ∷ xs) zero = omega arith
places_left (x ∷ xs) (suc k) =
    let here = length-append (all_places (slices_of xs)) (slice_places (slice_of x)) in
    let step = places_left xs k in
    omega (arith, here, step)

-- From the last part on.

front_is : (xs : List Kept) (k : ℕ) (d : Kept) → k < length xs → slices_of (drop k xs) ≡ slice_of (get_or xs k d) ∷ slices_of (drop (k + 1) xs)
front_is xs k d less =
    let e : k + 1 ≡ suc k = omega arith in
    ap slices_of (drop-cons xs k d less) ∙ ap (λ (n : ℕ). slice_of (get_or xs k d) ∷ slices_of (drop n xs)) (sym e)

pub join_step : (a b c : Building) (xs : List Kept) (k at : ℕ) (d : Kept) (bits : List Bit) → k < length xs → at ≡ length (all_places (slices_of (drop (k + 1) xs))) → IsJoinedTo a b (all_places (slices_of (drop (k + 1) xs))) bits → IsJoinedTo b c (slice_places (slice_of (get_or xs k d))) (drop at bits) → IsJoinedTo a c (all_places (slices_of (drop k xs))) bits
join_step a b c xs k at d bits less e h r =
    let P : List Slice → Type 0 = λ l. IsJoinedTo a c (all_places l) bits in
    let Q : ℕ → Type 0 = λ n. IsJoinedTo b c (slice_places (slice_of (get_or xs k d))) (drop n bits) in
    subst P (sym (front_is xs k d less)) (joined_then a b c (all_places (slices_of (drop (k + 1) xs))) (slice_places (slice_of (get_or xs k d))) bits h (subst Q e r))

pub size_step : (xs : List Kept) (k at : ℕ) (d : Kept) → k < length xs → at ≡ length (all_places (slices_of (drop (k + 1) xs))) → at + (get_or xs k d).size ≡ length (all_places (slices_of (drop k xs)))
size_step xs k at d less e =
    let here = ap (λ (l : List Slice). length (all_places l)) (front_is xs k d less) in
    let there = length-append (all_places (slices_of (drop (k + 1) xs))) (slice_places (slice_of (get_or xs k d))) in
    let size = long_slice (get_or xs k d) in
    omega (arith, here, there, size, e)

pub room_step : (xs : List Kept) (k at : ℕ) (d : Kept) → k < length xs → at ≡ length (all_places (slices_of (drop (k + 1) xs))) → at + (get_or xs k d).size ≤ length (all_places (slices_of xs))
room_step xs k at d less e = let here = size_step xs k at d less e in let left = places_left xs k in omega (arith, here, left)

-- One more bit of a part.

pub bits_placed : (s : Kept) (k : ℕ) → map (placed s.signal) (first_bits s (k + 1)) ≡ map (placed s.signal) (first_bits s k) ++ placed s.signal (bit_in s k) ∷ []
bits_placed s k = ap (map (placed s.signal)) (first_more s k) ∙ map-append (placed s.signal) (first_bits s k) (bit_in s k ∷ [])

-- One more part from the left.

targets_append : (xs ys : List Slice) → targets (xs ++ ys) ≡ targets xs ++ targets ys
targets_append [] ys = refl
targets_append (x ∷ xs) ys = ap (λ (l : List Target). bit_targets x.span x.signal x.bits ++ l) (targets_append xs ys) ∙ sym (append_assoc (bit_targets x.span x.signal x.bits) (targets xs) (targets ys))

pub targets_more : (xs : List Kept) (k : ℕ) (d : Kept) → k < length xs → targets (slices_of (take (k + 1) xs)) ≡ targets (slices_of (take k xs)) ++ bit_targets (get_or xs k d).span (get_or xs k d).signal (first_bits (get_or xs k d) (get_or xs k d).size)
targets_more xs k d less =
    let s : Kept = get_or xs k d in
    ap (λ (l : List Kept). targets (slices_of l)) (take_more xs k d less) ∙ ap targets (map-append slice_of (take k xs) (s ∷ [])) ∙ targets_append (slices_of (take k xs)) (slices_of (s ∷ []))
    ∙ ap (λ (l : List Target). targets (slices_of (take k xs)) ++ l) (append-nil (bit_targets s.span s.signal (first_bits s s.size)))

-- a part, with those before it and those behind
pub targets_split : (xs : List Kept) (k : ℕ) (d : Kept) → k < length xs → (rest : List Target) × (targets (slices_of xs) ≡ (targets (slices_of (take k xs)) ++ bit_targets (get_or xs k d).span (get_or xs k d).signal (first_bits (get_or xs k d) (get_or xs k d).size)) ++ rest)
targets_split [] k d less = absurd (omega arith)
targets_split (x ∷ xs) zero d less = (targets (slices_of xs), refl)
targets_split (x ∷ xs) (suc k) d less =
    let more = targets_split xs k d (omega arith) in
    let s : Kept = get_or xs k d in
    let here : List Target = bit_targets x.span x.signal (first_bits x x.size) in
    let front : List Target = targets (slices_of (take k xs)) in
    let part : List Target = bit_targets s.span s.signal (first_bits s s.size) in
    (more.0, ap (λ (l : List Target). here ++ l) more.1 ∙ sym (append_assoc here (front ++ part) more.0) ∙ ap (λ (l : List Target). l ++ more.0) (sym (append_assoc here front part)))
