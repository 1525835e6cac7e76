-- Rows that are moved.
use Rattle.gate_words.proofs.Common.{◌≡◌, ℕ, zero, suc, ◌+◌, ◌-◌, ◌<◌, ◌≤◌, Bool, true, false, List, [], ◌∷◌, ◌++◌, length, map, take, drop, replicate, refl, sym, ap, ◌∙◌, append_assoc, inl, inr}
use Rattle.gate_words.proofs.Common.{arith, if◌then◌else◌, All, cases_lt, length-append, length-take-le, length-drop, length-replicate, length-map, take-take, take_all, take-append-le, take-replicate}
use Rattle.gate_words.proofs.Common.{drop-drop, drop_all, drop-append-le, drop-replicate, replicate-append-replicate, append-nil, map-append, take-map, drop-map, All-append, All-replicate, All-take}
use Rattle.gate_words.proofs.Common.{All-drop, Way, Up, Down, both_bits, moved}

pub length-moved : {X : Type 0} (way : Way) (n : ℕ) (fill : X) (bits : List X) → length (moved way n fill bits) ≡ length bits
length-moved Up n fill bits = length-take-le (length bits) (replicate n fill ++ bits) (omega (arith, length-append (replicate n fill) bits))
length-moved Down n fill bits = omega (arith, length-append (drop n bits) (replicate (length bits - length (drop n bits)) fill), length-replicate (length bits - length (drop n bits)) fill, length-drop n bits)

pub All-moved : {X : Type 0} (P : X → Type 0) (way : Way) (n : ℕ) (fill : X) (bits : List X) → P fill → All P bits → All P (moved way n fill bits)
All-moved P Up n fill bits is are = All-take P (length bits) (replicate n fill ++ bits) (All-append P (replicate n fill) bits (All-replicate P n fill is) are)
All-moved P Down n fill bits is are = All-append P (drop n bits) (replicate (length bits - length (drop n bits)) fill) (All-drop P n bits are) (All-replicate P (length bits - length (drop n bits)) fill is)

pub map-replicate : {X Y : Type 0} (f : X → Y) (n : ℕ) (x : X) → map f (replicate n x) ≡ replicate n (f x)
map-replicate f zero x = refl
map-replicate f (suc n) x = ap (λ l. f x ∷ l) (map-replicate f n x)

pub map-moved : {X Y : Type 0} (f : X → Y) (way : Way) (n : ℕ) (fill : X) (bits : List X) → map f (moved way n fill bits) ≡ moved way n (f fill) (map f bits)
map-moved f Up n fill bits =
    sym (take-map f (length bits) (replicate n fill ++ bits))
    ∙ ap (λ l. take (length bits) l) (map-append f (replicate n fill) bits ∙ ap (λ l. l ++ map f bits) (map-replicate f n fill))
    ∙ ap (λ (k : ℕ). take k (replicate n (f fill) ++ map f bits)) (sym (length-map bits f))
map-moved f Down n fill bits =
    let count : length bits - length (drop n bits) ≡ length (map f bits) - length (drop n (map f bits)) = omega (arith, length-map bits f, length-drop n bits, length-drop n (map f bits)) in
    map-append f (drop n bits) (replicate (length bits - length (drop n bits)) fill)
    ∙ ap (λ l. map f (drop n bits) ++ l) (map-replicate f (length bits - length (drop n bits)) fill ∙ ap (λ (k : ℕ). replicate k (f fill)) count)
    ∙ ap (λ l. l ++ replicate (length (map f bits) - length (drop n (map f bits))) (f fill)) (sym (drop-map f n bits))

pub moved-none : {X : Type 0} (way : Way) (fill : X) (bits : List X) → moved way 0 fill bits ≡ bits
moved-none Up fill bits = take_all (length bits) bits (omega arith)
moved-none Down fill bits = ap (λ (k : ℕ). bits ++ replicate k fill) (let e : length bits - length bits ≡ 0 = omega arith in e) ∙ append-nil bits

pub moved-all : {X : Type 0} (way : Way) (n : ℕ) (fill : X) (bits : List X) → length bits ≤ n → moved way n fill bits ≡ replicate (length bits) fill
moved-all Up n fill bits past = take-append-le (length bits) (replicate n fill) bits (omega (arith, length-replicate n fill)) ∙ take-replicate (length bits) n fill past
moved-all Down n fill bits past =
    ap (λ l. l ++ replicate (length bits - length l) fill) (drop_all n bits past) ∙ ap (λ (k : ℕ). replicate k fill) (let e : length bits - 0 ≡ length bits = omega arith in e)

pub take-append-take : {X : Type 0} (k w : ℕ) (xs ys : List X) → k ≤ w → take k (xs ++ take w ys) ≡ take k (xs ++ ys)
take-append-take k w [] ys le = take-take k w ys le
take-append-take zero w (x ∷ xs) ys le = refl
take-append-take (suc k) w (x ∷ xs) ys le = ap (λ l. x ∷ l) (take-append-take k w xs ys (omega (arith, le)))

down-within : {X : Type 0} (m n k : ℕ) (fill : X) (bits : List X) → n ≤ length (drop m bits) → length (drop m bits) + k ≡ length bits → moved Down n fill (drop m bits ++ replicate k fill) ≡ moved Down (n + m) fill bits
down-within m n k fill bits le sum =
    let kept : drop n (drop m bits ++ replicate k fill) ≡ drop (n + m) bits ++ replicate k fill =
    drop-append-le n (drop m bits) (replicate k fill) le ∙ ap (λ l. l ++ replicate k fill) (drop-drop n m bits ∙ ap (λ (j : ℕ). drop j bits) (let e : m + n ≡ n + m = omega arith in e)) in
    let long : length (drop m bits ++ replicate k fill) ≡ length bits = length-append (drop m bits) (replicate k fill) ∙ (omega (arith, length-replicate k fill, sum)) in
    let left : length (drop (n + m) bits ++ replicate k fill) ≡ length (drop (n + m) bits) + k = length-append (drop (n + m) bits) (replicate k fill) ∙ ap (λ (j : ℕ). length (drop (n + m) bits) + j) (length-replicate k fill) in
    let rest : k + (length bits - (length (drop (n + m) bits) + k)) ≡ length bits - length (drop (n + m) bits) = omega (arith, length-drop (n + m) bits, length-drop m bits, sum, le) in
    ap (λ l. l ++ replicate (length (drop m bits ++ replicate k fill) - length l) fill) kept
    ∙ ap (λ (j : ℕ). (drop (n + m) bits ++ replicate k fill) ++ replicate (j - length (drop (n + m) bits ++ replicate k fill)) fill) long
    ∙ ap (λ (j : ℕ). (drop (n + m) bits ++ replicate k fill) ++ replicate (length bits - j) fill) left
    ∙ append_assoc (drop (n + m) bits) (replicate k fill) (replicate (length bits - (length (drop (n + m) bits) + k)) fill)
    ∙ ap (λ l. drop (n + m) bits ++ l) (replicate-append-replicate k (length bits - (length (drop (n + m) bits) + k)) fill ∙ ap (λ (j : ℕ). replicate j fill) rest)

-- past the end of what is left, all is filled
drop-past : {X : Type 0} (n : ℕ) (xs ys : List X) → length xs ≤ n → drop n (xs ++ ys) ≡ drop (n - length xs) ys
drop-past n [] ys le = ap (λ (j : ℕ). drop j ys) (let e : n ≡ n - 0 = omega arith in e)
drop-past zero (x ∷ xs) ys le = absurd (omega arith)
drop-past (suc n) (x ∷ xs) ys le = drop-past n xs ys (omega (arith, le)) ∙ ap (λ (j : ℕ). drop j ys) (let e : n - length xs ≡ suc n - length (x ∷ xs) = omega arith in e)

down-past : {X : Type 0} (m n k : ℕ) (fill : X) (bits : List X) → length (drop m bits) < n → length (drop m bits) + k ≡ length bits → moved Down n fill (drop m bits ++ replicate k fill) ≡ moved Down (n + m) fill bits
down-past m n k fill bits past sum =
    let kept : drop n (drop m bits ++ replicate k fill) ≡ replicate (k - (n - length (drop m bits))) fill = drop-past n (drop m bits) (replicate k fill) (omega (arith, past)) ∙ drop-replicate (n - length (drop m bits)) k fill in
    let long : length (drop m bits ++ replicate k fill) ≡ length bits = length-append (drop m bits) (replicate k fill) ∙ (omega (arith, length-replicate k fill, sum)) in
    let some : ℕ = k - (n - length (drop m bits)) in
    let rest : some + (length bits - some) ≡ length bits = omega (arith, sum) in
    ap (λ l. l ++ replicate (length (drop m bits ++ replicate k fill) - length l) fill) kept
    ∙ ap (λ (j : ℕ). replicate some fill ++ replicate (j - length (replicate some fill)) fill) long
    ∙ ap (λ (j : ℕ). replicate some fill ++ replicate (length bits - j) fill) (length-replicate some fill)
    ∙ replicate-append-replicate some (length bits - some) fill
    ∙ ap (λ (j : ℕ). replicate j fill) rest
    ∙ sym (moved-all Down (n + m) fill bits (omega (arith, past, length-drop m bits)))

pub moved-twice : {X : Type 0} (way : Way) (n m : ℕ) (fill : X) (bits : List X) → moved way n fill (moved way m fill bits) ≡ moved way (n + m) fill bits
moved-twice Up n m fill bits =
    ap (λ (k : ℕ). take k (replicate n fill ++ moved Up m fill bits)) (length-moved Up m fill bits)
    ∙ take-append-take (length bits) (length bits) (replicate n fill) (replicate m fill ++ bits) (omega arith)
    ∙ ap (λ l. take (length bits) l) (sym (append_assoc (replicate n fill) (replicate m fill) bits) ∙ ap (λ l. l ++ bits) (replicate-append-replicate n m fill))
moved-twice Down n m fill bits =
    let sum : length (drop m bits) + (length bits - length (drop m bits)) ≡ length bits = omega (arith, length-drop m bits) in
    elim (cases_lt (length (drop m bits)) n) [
      | inl past ↦ down-past m n (length bits - length (drop m bits)) fill bits past sum
      | inr within ↦ down-within m n (length bits - length (drop m bits)) fill bits within sum
    ]

-- a row of mux
pub both-chosen : (s : Bool) (xs ys : List Bool) → length xs ≡ length ys → both_bits (λ x y. if s then y else x) xs ys ≡ (if s then ys else xs)
both-chosen true [] [] len = refl
both-chosen false [] [] len = refl
both-chosen s [] (y ∷ ys) len = absurd (omega arith)
both-chosen s (x ∷ xs) [] len = absurd (omega arith)
both-chosen true (x ∷ xs) (y ∷ ys) len = ap (λ l. y ∷ l) (both-chosen true xs ys (omega (arith, len)))
both-chosen false (x ∷ xs) (y ∷ ys) len = ap (λ l. x ∷ l) (both-chosen false xs ys (omega (arith, len)))
