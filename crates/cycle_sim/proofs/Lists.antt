-- Lists that are written from the front.
use Rattle.cycle_sim.proofs.Common.{◌≡◌, ℕ, suc, zero, ◌+◌, ◌<◌, ◌≤◌, List, [], ◌∷◌, ◌++◌, length, take, drop, set, get_or, refl, ap, sym, ◌∙◌, arith, append_assoc, length-append, length-take-le}
use Rattle.cycle_sim.proofs.Common.{length-drop, drop-drop, take_more, Word, Register, number, Nets, plain, taken, values, numbers_of}

pub set-next : (done rest : List ℕ) (i v : ℕ) → i ≡ length done → 0 < length rest → set (done ++ rest) i v ≡ (done ++ v ∷ []) ++ drop 1 rest
set-next [] [] i v e h = absurd (omega (arith, h))
set-next [] (x ∷ rest) i v e h = rw e refl
set-next (d ∷ done) rest i v e h = rw e (ap (λ (l : List ℕ). d ∷ l) (set-next done rest (length done) v refl h))

drop-next : (i : ℕ) (l : List ℕ) → drop 1 (drop i l) ≡ drop (i + 1) l
drop-next i l = drop-drop 1 i l

drop-some : (i : ℕ) (l : List ℕ) → i < length l → 0 < length (drop i l)
drop-some i l h = (let d = length-drop i l in omega (arith, d, h))

numbers-length : (i : ℕ) (words : List Word) → i ≤ length words → i ≡ length (numbers_of (take i words))
numbers-length zero words h = refl
numbers-length (suc i) [] h = absurd (omega (arith, h))
numbers-length (suc i) (w ∷ words) h = ap suc (numbers-length i words (omega (arith, h)))

numbers-next : (i : ℕ) (words : List Word) (w : Word) → i < length words → w ≡ get_or words i w → numbers_of (take (suc i) words) ≡ numbers_of (take i words) ++ w.bits ∷ []
numbers-next i [] w h is = absurd (omega (arith, h))
numbers-next zero (x ∷ words) w h is = rw (ap (λ (v : Word). v.bits) is) refl
numbers-next (suc i) (x ∷ words) w h is = ap (λ (l : List ℕ). x.bits ∷ l) (numbers-next i words w (omega (arith, h)) is)

-- one more word's number written
pub copied : (i : ℕ) (words : List Word) (w : Word) (values first : List ℕ) → values ≡ numbers_of (take i words) ++ drop i first → length words ≤ length first → i < length words → w ≡ get_or words i w → set values i w.bits ≡ numbers_of (take (i + 1) words) ++ drop (i + 1) first
copied i words w values first is long h at =
    ap (λ (l : List ℕ). set l i w.bits) is
    ∙ set-next (numbers_of (take i words)) (drop i first) i w.bits (numbers-length i words (omega (arith, h))) (drop-some i first (omega (arith, h, long)))
    ∙ ap (λ (l : List ℕ). l ++ drop 1 (drop i first)) (sym (numbers-next i words w h at) ∙ ap (λ (k : ℕ). numbers_of (take k words)) (let e : suc i ≡ i + 1 = omega arith in e))
    ∙ ap (λ (l : List ℕ). numbers_of (take (i + 1) words) ++ l) (drop-next i first)

-- one more number written behind the first ones
pub laid-more : (n i v : ℕ) (numbers table first : List ℕ) → table ≡ (take n first ++ take i numbers) ++ drop (n + i) first → n + length numbers ≤ length first → i < length numbers → v ≡ get_or numbers i 0 → set table (n + i) v ≡ (take n first ++ take (i + 1) numbers) ++ drop (n + (i + 1)) first
laid-more n i v numbers table first is long h at =
    let done : List ℕ = take n first ++ take i numbers in
    let a = length-append (take n first) (take i numbers) in
    let b = length-take-le n first (omega (arith, long)) in
    let e = length-take-le i numbers (omega (arith, h)) in
    let place : n + i ≡ length done = omega (arith, a, b, e) in
    let more : done ++ v ∷ [] ≡ take n first ++ take (i + 1) numbers = append_assoc (take n first) (take i numbers) (v ∷ []) ∙ ap (λ (l : List ℕ). take n first ++ l) (ap (λ (x : ℕ). take i numbers ++ x ∷ []) at ∙ sym (take_more numbers i 0 h)) in
    let rest : drop 1 (drop (n + i) first) ≡ drop (n + (i + 1)) first = drop-next (n + i) first ∙ ap (λ (k : ℕ). drop k first) (let s : n + i + 1 ≡ n + (i + 1) = omega arith in s) in
    ap (λ (l : List ℕ). set l (n + i) v) is
    ∙ set-next done (drop (n + i) first) (n + i) v place (drop-some (n + i) first (omega (arith, h, long)))
    ∙ ap (λ (l : List ℕ). l ++ drop 1 (drop (n + i) first)) more
    ∙ ap (λ (l : List ℕ). (take n first ++ take (i + 1) numbers) ++ l) rest

taken-length : (nets : Nets) (k i : ℕ) (rs : List Register) → i ≤ length rs → i ≡ length (taken (plain nets) k (take i rs))
taken-length nets k zero rs h = refl
taken-length nets k (suc i) [] h = absurd (omega (arith, h))
taken-length nets k (suc i) (r ∷ rs) h = ap suc (taken-length nets (k + 1) i rs (omega (arith, h)))

taken-next : (nets : Nets) (k i : ℕ) (rs : List Register) (r : Register) → i < length rs → taken (plain nets) k (take (suc i) rs) ≡ taken (plain nets) k (take i rs) ++ number (values nets (get_or rs i r).d) ∷ []
taken-next nets k i [] r h = absurd (omega (arith, h))
taken-next nets k zero (x ∷ rs) r h = refl
taken-next nets k (suc i) (x ∷ rs) r h = ap (λ (l : List ℕ). number (values nets x.d) ∷ l) (taken-next nets (k + 1) i rs r (omega (arith, h)))

-- one more register taken
pub took : (nets : Nets) (i v : ℕ) (rs : List Register) (r : Register) (vs first : List ℕ) → vs ≡ taken (plain nets) 0 (take i rs) ++ drop i first → length first ≡ length rs → i < length rs → v ≡ number (values nets (get_or rs i r).d) → set vs i v ≡ taken (plain nets) 0 (take (i + 1) rs) ++ drop (i + 1) first
took nets i v rs r vs first is long h e =
    ap (λ (l : List ℕ). set l i v) is
    ∙ set-next (taken (plain nets) 0 (take i rs)) (drop i first) i v (taken-length nets 0 i rs (omega (arith, h))) (drop-some i first (omega (arith, h, long)))
    ∙ ap (λ (l : List ℕ). l ++ drop 1 (drop i first)) (ap (λ (x : ℕ). taken (plain nets) 0 (take i rs) ++ x ∷ []) e ∙ sym (taken-next nets 0 i rs r h) ∙ ap (λ (k : ℕ). taken (plain nets) 0 (take k rs)) (let s : suc i ≡ i + 1 = omega arith in s))
    ∙ ap (λ (l : List ℕ). taken (plain nets) 0 (take (i + 1) rs) ++ l) (drop-next i first)
