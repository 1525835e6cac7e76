-- The places of bits that are written from a declared number on, and the writes one after the other.
use Rattle.proc_muxes.proofs.Common.{◌≡◌, ℕ, zero, suc, ◌+◌, ◌-◌, ◌<◌, ℤ, pos, ◌+ℤ◌, List, [], ◌∷◌, drop, length, get_or, set, Option, Some, None, refl, sym, ◌∙◌, ap, arith, drop-cons, length-set}
use Rattle.proc_muxes.proofs.Common.{Bit, Vector, bit_at, bits_from, written}
use Rattle.std.proofs.lemmas.Int.{ints}

-- One bit after the other.

-- a bit that is written at a place, where there is one
abbrev pub write_at : List Bit → Option ℕ → Bit → List Bit
write_at xs None b = xs
write_at xs (Some i) b = set xs i b

one-write : (xs : List Bit) (o : Option ℕ) (ps : List (Option ℕ)) (b : Bit) (bs : List Bit) → written xs (o ∷ ps) (b ∷ bs) ≡ written (write_at xs o b) ps bs
one-write xs None ps b bs = refl
one-write xs (Some i) ps b bs = refl

pub written-next : (v : Vector) (xs bs : List Bit) (z : ℤ) (k : ℕ) (b : Bit) (o : Option ℕ) → k < length bs → b ≡ get_or bs k b → o ≡ bit_at v (z +ℤ pos k) → written xs (bits_from v (z +ℤ pos k) (length bs - k)) (drop k bs) ≡ written (write_at xs o b) (bits_from v (z +ℤ pos (k + 1)) (length bs - (k + 1))) (drop (k + 1) bs)
written-next v xs bs z k b o h is at =
    let n : ℕ = length bs - (k + 1) in
    let count : length bs - k ≡ suc n = omega arith in
    let next : z +ℤ pos k +ℤ pos 1 ≡ z +ℤ pos (k + 1) = omega (arith, ints) in
    let one : suc k ≡ k + 1 = omega arith in
    let front : drop k bs ≡ b ∷ drop (k + 1) bs = drop-cons bs k b h ∙ ap (λ (y : Bit). y ∷ drop (suc k) bs) (sym is) ∙ ap (λ (m : ℕ). b ∷ drop m bs) one in
    ap (λ (m : ℕ). written xs (bits_from v (z +ℤ pos k) m) (drop k bs)) count
    ∙ ap (λ (t : List Bit). written xs (bits_from v (z +ℤ pos k) (suc n)) t) front
    ∙ one-write xs (bit_at v (z +ℤ pos k)) (bits_from v (z +ℤ pos k +ℤ pos 1) n) b (drop (k + 1) bs)
    ∙ ap (λ (p : Option ℕ). written (write_at xs p b) (bits_from v (z +ℤ pos k +ℤ pos 1) n) (drop (k + 1) bs)) (sym at)
    ∙ ap (λ (y : ℤ). written (write_at xs o b) (bits_from v y n) (drop (k + 1) bs)) next

any-default : (xs : List Bit) (k : ℕ) (d e : Bit) → k < length xs → get_or xs k d ≡ get_or xs k e
any-default [] k d e h = absurd (omega arith)
any-default (x ∷ xs) zero d e h = refl
any-default (x ∷ xs) (suc k) d e h = any-default xs k d e (omega arith)

pub written-more : (v : Vector) (xs ys old bs : List Bit) (z : ℤ) (k : ℕ) (d : Bit) (o : Option ℕ) → k < length bs → o ≡ bit_at v (z +ℤ pos k) → ys ≡ write_at xs o (get_or bs k d) → written xs (bits_from v (z +ℤ pos k) (length bs - k)) (drop k bs) ≡ written old (bits_from v z (length bs)) bs → written ys (bits_from v (z +ℤ pos (k + 1)) (length bs - (k + 1))) (drop (k + 1) bs) ≡ written old (bits_from v z (length bs)) bs
written-more v xs ys old bs z k d o h at e same =
    ap (λ (l : List Bit). written l (bits_from v (z +ℤ pos (k + 1)) (length bs - (k + 1))) (drop (k + 1) bs)) e
    ∙ sym (written-next v xs bs z k (get_or bs k d) o h (any-default bs k d (get_or bs k d) h) at)
    ∙ same

pub write-long : (xs ys : List Bit) (o : Option ℕ) (b : Bit) → ys ≡ write_at xs o b → length ys ≡ length xs
write-long xs ys None b e = ap (λ (l : List Bit). length l) e
write-long xs ys (Some i) b e = ap (λ (l : List Bit). length l) e ∙ length-set xs i b
