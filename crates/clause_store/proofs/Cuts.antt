-- Lists one after the other in one buffer.
use Rattle.std.proofs.Common.{◌≡◌, ℕ, zero, suc, ◌+◌, ◌-◌, ◌<◌, ◌≤◌, List, [], ◌∷◌, ◌++◌, length, drop, get_or, refl, ap, sym, slice_range, slice_get, Some, sum_by, arith}
use Rattle.std.proofs.lemmas.List.{length-take, length-drop, take-append-le, drop-append-le, take_all, drop_at}
use Rattle.std.proofs.lemmas.List.Sums.{sum_by-cons}
use Rattle.clause_store.specs.Layout.{cut_at, start_at, IsLaidOut}

pub cut_count : {A : Type 0} (start : ℕ) (ends : List ℕ) (buffer : List A) → length (cut_at start ends buffer) ≡ length ends
cut_count start [] buffer = refl
cut_count start (end ∷ more) buffer = ap suc (cut_count end more buffer)

-- the last end is no less than the first start
pub laid_out-le : (start : ℕ) (ends : List ℕ) (total : ℕ) → IsLaidOut start ends total → start ≤ total
laid_out-le start [] total laid = omega (arith, laid)
laid_out-le start (end ∷ more) total laid = omega (arith, laid.0, laid_out-le end more total laid.1)

-- a part within a buffer has its length
pub length-part : {A : Type 0} (start end : ℕ) (buffer : List A) → end ≤ length buffer → length (slice_range buffer start end) ≡ end - start
length-part start end buffer h = simp (length-take, length-drop) (omega arith)

-- all pieces together are the buffer from the first start on
pub cut_sum : {A : Type 0} (start : ℕ) (ends : List ℕ) (buffer : List A) → IsLaidOut start ends (length buffer) → start + sum_by length (cut_at start ends buffer) ≡ length buffer
cut_sum start [] buffer laid = omega (arith, laid)
cut_sum start (end ∷ more) buffer laid =
    let rest : end + sum_by length (cut_at end more buffer) ≡ length buffer = cut_sum end more buffer laid.1 in
    let below : end ≤ length buffer = laid_out-le end more (length buffer) laid.1 in
    let piece : length (slice_range buffer start end) ≡ end - start = length-part start end buffer below in
    omega (arith, rest, piece, laid.0, sum_by-cons length (slice_range buffer start end) (cut_at end more buffer))

-- the piece with a number
pub cut-get : {A : Type 0} (start : ℕ) (ends : List ℕ) (buffer : List A) (k : ℕ) → k < length ends → slice_get (cut_at start ends buffer) k ≡ Some (slice_range buffer (start_at start ends k) (get_or ends k 0))
cut-get start [] buffer k h = absurd (omega arith)
cut-get start (end ∷ more) buffer zero h = refl
cut-get start (end ∷ more) buffer (suc k) h = cut-get end more buffer k (omega arith)

pub start-le : (start : ℕ) (ends : List ℕ) (total k : ℕ) → k < length ends → IsLaidOut start ends total → start_at start ends k ≤ get_or ends k 0
start-le start [] total k h laid = absurd (omega arith)
start-le start (end ∷ more) total zero h laid = laid.0
start-le start (end ∷ more) total (suc k) h laid = start-le end more total k (omega arith) laid.1

pub end-le : (start : ℕ) (ends : List ℕ) (total k : ℕ) → k < length ends → IsLaidOut start ends total → get_or ends k 0 ≤ total
end-le start [] total k h laid = absurd (omega arith)
end-le start (end ∷ more) total zero h laid = laid_out-le end more total laid.1
end-le start (end ∷ more) total (suc k) h laid = end-le end more total k (omega arith) laid.1

-- a piece begins where the one before it ends
pub start-after : (start : ℕ) (ends : List ℕ) (k : ℕ) → k < length ends → start_at start ends (suc k) ≡ get_or ends k 0
start-after start [] k h = absurd (omega arith)
start-after start (end ∷ more) zero h = refl
start-after start (end ∷ more) (suc k) h = start-after end more k (omega arith)

-- a part within a buffer stays where the buffer grows
pub part-append : {A : Type 0} (start end : ℕ) (buffer more : List A) → start ≤ end → end ≤ length buffer → slice_range (buffer ++ more) start end ≡ slice_range buffer start end
part-append start end buffer more h k =
    let begins : start ≤ length buffer = omega arith in
    let fits : end - start ≤ length (drop start buffer) = simp (length-drop) (omega arith) in
    rw (drop-append-le start buffer more begins, take-append-le (end - start) (drop start buffer) more fits) refl

-- a buffer with one more piece
pub cut-push : {A : Type 0} (start : ℕ) (ends : List ℕ) (buffer more : List A) → IsLaidOut start ends (length buffer) → cut_at start (ends ++ (length buffer + length more) ∷ []) (buffer ++ more) ≡ cut_at start ends buffer ++ more ∷ []
cut-push start [] buffer more laid =
    let rest : drop start (buffer ++ more) ≡ more = drop_at buffer more start (sym laid) in
    let fits : length more ≤ length buffer + length more - start = omega (arith, laid) in
    rw (rest, take_all (length buffer + length more - start) more fits) refl
cut-push start (end ∷ ends) buffer more laid =
    rw (part-append start end buffer more laid.0 (laid_out-le end ends (length buffer) laid.1)) (ap (λ rest. slice_range buffer start end ∷ rest) (cut-push end ends buffer more laid.1))

pub laid_out-push : (start : ℕ) (ends : List ℕ) (total more : ℕ) → IsLaidOut start ends total → IsLaidOut start (ends ++ (total + more) ∷ []) (total + more)
laid_out-push start [] total more laid = (omega (arith, laid), refl)
laid_out-push start (end ∷ ends) total more laid = (laid.0, laid_out-push end ends total more laid.1)
