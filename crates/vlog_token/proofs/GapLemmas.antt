-- Blanks and comments at the front.
use Rattle.vlog_token.proofs.Common.{◌≡◌, ℕ, suc, ◌+◌, ◌<◌, ◌≤◌, Bool, true, false, ◌||◌, ◌&&◌, List, [], ◌∷◌, ◌++◌, length, take, drop, get_or, refl, sym, ap, ◌∙◌, subst, arith, ⊎_elim, inl, inr}
use Rattle.vlog_token.proofs.Common.{append_assoc, length-take-le, ◌==◌, prefix_len, and_parts, or_cases, eqb-true, cases_lt, get_or-take, get_or_past, take_more, prefix_len-le-length, is_newline}
use Rattle.vlog_token.proofs.Common.{is_in_line, begins_comment, EndsLine, IsGap, NoneCloses, IsFirstClose}
use Rattle.std.specs.Prelude.{not}
use Rattle.vlog_token.proofs.Runs.{run_fits, run_stops, Stops}

not_is_false : (b : Bool) → not b ≡ false → b ≡ true
not_is_false true h = refl
not_is_false false h = let bad : true ≡ false = h in cc

ends_line : (rest : List ℕ) → Stops is_in_line rest → EndsLine rest
ends_line [] h = tt
ends_line (c ∷ cs) h = not_is_false (is_newline c) h

-- a gap of n bytes stands in front
abbrev pub GapOf : List ℕ → ℕ → Type 0
GapOf bytes n = (n ≤ length bytes) × IsGap (take n bytes) (drop n bytes)

-- a comment begins with `/` and then `/` or `*`
first_is : (a b : ℕ) → (a == 47 && (b == 47 || b == 42)) ≡ true → a ≡ 47
first_is a b h = eqb-true a 47 (and_parts (a == 47) (b == 47 || b == 42) h).0

second_is : (a b : ℕ) → (a == 47 && (b == 47 || b == 42)) ≡ true → (b ≡ 47 → ⊥) → b ≡ 42
second_is a b h other =
    ⊎_elim (λ slash. absurd (other (eqb-true b 47 slash))) (λ star. eqb-true b 42 star)
    (or_cases (b == 47) (b == 42) (and_parts (a == 47) (b == 47 || b == 42) h).1)

two : (a b c d : ℕ) (xs : List ℕ) → a ≡ c → b ≡ d → a ∷ b ∷ xs ≡ c ∷ d ∷ xs
two a b c d xs first second = ap (λ q. q ∷ b ∷ xs) first ∙ ap (λ q. c ∷ q ∷ xs) second

pub line_gap : (bytes : List ℕ) (n : ℕ) → begins_comment bytes ≡ true → get_or bytes 1 0 ≡ 47 → n ≡ prefix_len is_in_line (drop 2 bytes) → GapOf bytes (2 + n)
line_gap [] n begins slash is = let bad : false ≡ true = begins in cc
line_gap (a ∷ []) n begins slash is = let bad : false ≡ true = begins in cc
line_gap (a ∷ b ∷ body) n begins slash is =
    let count : 2 + n ≡ suc (suc (prefix_len is_in_line body)) = omega (arith, is) in
    let within : suc (suc (prefix_len is_in_line body)) ≤ suc (suc (length body)) = omega (arith, prefix_len-le-length is_in_line body) in
    subst (GapOf (a ∷ b ∷ body)) (sym count) (
      within,
      inr (inl (record {
        body = take (prefix_len is_in_line body) body;
        parts = two a b 47 47 (take (prefix_len is_in_line body) body) (first_is a b begins) slash;
        of_the_line = run_fits is_in_line body;
        to_its_end = ends_line (drop (prefix_len is_in_line body) body) (run_stops is_in_line body);
      })),
    )

-- no `*/` is in front of the first
none_before : (body : List ℕ) (at : ℕ) → IsFirstClose body at → NoneCloses (take at body)
none_before body at first k star slash =
    let within = first.within in
    let long : length (take at body) ≡ at = length-take-le at body (omega (arith, within)) in
    ⊎_elim
    (λ inside.
    let here : k < at = omega (arith, inside) in
    first.before k here (sym (get_or-take at body k 0 here) ∙ star) (sym (get_or-take at body (k + 1) 0 inside) ∙ slash))
    (λ past. absurd (omega (arith, slash, get_or_past (take at body) (k + 1) 0 (omega (arith, long, past)))))
    (cases_lt (k + 1) at)

closed : (body : List ℕ) (at : ℕ) → IsFirstClose body at → take (at + 2) body ≡ take at body ++ 42 ∷ 47 ∷ []
closed body at first =
    let within = first.within in
    let split : at + 2 ≡ at + 1 + 1 = omega arith in
    let here : at < length body = omega (arith, within) in
    ap (λ n. take n body) split
    ∙ take_more body (at + 1) 0 within
    ∙ ap (λ l. l ++ get_or body (at + 1) 0 ∷ []) (take_more body at 0 here)
    ∙ append_assoc (take at body) (get_or body at 0 ∷ []) (get_or body (at + 1) 0 ∷ [])
    ∙ ap (λ l. take at body ++ l) (two (get_or body at 0) (get_or body (at + 1) 0) 42 47 [] first.star first.slash)

pub block_gap : (bytes : List ℕ) (at : ℕ) → begins_comment bytes ≡ true → (get_or bytes 1 0 ≡ 47 → ⊥) → IsFirstClose (drop 2 bytes) at → GapOf bytes (at + 4)
block_gap [] at begins other first = let bad : false ≡ true = begins in cc
block_gap (a ∷ []) at begins other first = let bad : false ≡ true = begins in cc
block_gap (a ∷ b ∷ body) at begins other first =
    let count : at + 4 ≡ suc (suc (at + 2)) = omega arith in
    let inside = first.within in
    let within : suc (suc (at + 2)) ≤ suc (suc (length body)) = omega (arith, inside) in
    subst (GapOf (a ∷ b ∷ body)) (sym count) (
      within,
      inr (inr (record {
        body = take at body;
        parts = two a b 47 42 (take (at + 2) body) (first_is a b begins) (second_is a b begins other) ∙ ap (λ l. 47 ∷ 42 ∷ l) (closed body at first);
        first_close = none_before body at first;
      })),
    )
