-- One more bit of a part is joined.
use Rattle.flat_assigns.proofs.Common.{◌≡◌, ℕ, suc, ◌+◌, ◌<◌, List, [], ◌∷◌, map, length, drop, get_or, Option, None, sym, ◌∙◌, subst, drop-cons, drop-drop, length-map, Bit, Building, signal, Place}
use Rattle.flat_assigns.proofs.Common.{length-bits_from, Kept, IsJoinedTo, bit_in, first_bits, vector_in, placed}
use Rattle.flat_assigns.proofs.Joins.{joined_then, joined_outside}
use Rattle.flat_assigns.proofs.Scans.{bits_placed}

front_bits : (bits : List Bit) (at k : ℕ) (d : Bit) → at + k < length bits → drop k (drop at bits) ≡ get_or bits (at + k) d ∷ drop (suc (at + k)) bits
front_bits bits at k d less = drop-drop k at bits ∙ drop-cons bits (at + k) d less

long_places : (s : Kept) (k : ℕ) → length (map (placed s.signal) (first_bits s k)) ≡ k
long_places s k = length-map (first_bits s k) (placed s.signal) ∙ length-bits_from (vector_in s) _ k

pub part_step : (a b c : Building) (s : Kept) (k j at : ℕ) (bits : List Bit) (d : Bit) → j ≡ k → at + k < length bits → IsJoinedTo a b (map (placed s.signal) (first_bits s k)) (drop at bits) → ((more : List Bit) → IsJoinedTo b c (placed s.signal (bit_in s k) ∷ []) (get_or bits (at + j) d ∷ more)) → IsJoinedTo a c (map (placed s.signal) (first_bits s (k + 1))) (drop at bits)
part_step a b c s k j at bits d same less h r =
    let J : ℕ → Type 0 = λ i. (more : List Bit) → IsJoinedTo b c (placed s.signal (bit_in s k) ∷ []) (get_or bits (at + i) d ∷ more) in
    let P : List Bit → Type 0 = λ l. IsJoinedTo b c (placed s.signal (bit_in s k) ∷ []) l in
    let Q : ℕ → Type 0 = λ n. IsJoinedTo b c (placed s.signal (bit_in s k) ∷ []) (drop n (drop at bits)) in
    let R : List (Option Place) → Type 0 = λ l. IsJoinedTo a c l (drop at bits) in
    let next = subst P (sym (front_bits bits at k d less)) (subst J same r (drop (suc (at + k)) bits)) in
    subst R (sym (bits_placed s k)) (joined_then a b c (map (placed s.signal) (first_bits s k)) (placed s.signal (bit_in s k) ∷ []) (drop at bits) h (subst Q (sym (long_places s k)) next))

pub bit_outside : (b : Building) (s : Kept) (k : ℕ) (o : Option ℕ) (to : Bit) → o ≡ bit_in s k → o ≡ None → (more : List Bit) → IsJoinedTo b b (placed s.signal (bit_in s k) ∷ []) (to ∷ more)
bit_outside b s k o to e is more =
    let P : Option ℕ → Type 0 = λ x. IsJoinedTo b b (placed s.signal x ∷ []) (to ∷ more) in
    subst P (sym is ∙ e) (joined_outside b to more)
