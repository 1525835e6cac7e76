-- The place moves on over the bytes.
use Rattle.vlog_token.proofs.Common.{◌≡◌, ℕ, ◌+◌, ◌≤◌, cond, List, [], ◌∷◌, ◌++◌, length, sym, ap, ◌∙◌, arith, append_assoc, append-nil, count_by, suffix_len, prefix_len, cond_both, cond-true}
use Rattle.vlog_token.proofs.Common.{cond-false, not_from_true, not_from_false, reverse-append, sum_by_push, count_by-le-length, suffix_len-le-length, Span, is_newline, is_in_line, next_place}
use Rattle.vlog_token.proofs.Common.{place_after, place_moved}

abbrev place : ℕ → ℕ → ℕ → Span
place file line col = record { file = file; line = line; col = col }

-- one byte more in the line
in_line_push : (before : List ℕ) (c : ℕ) → suffix_len is_in_line (before ++ c ∷ []) ≡ cond (is_in_line c) (1 + suffix_len is_in_line before) 0
in_line_push before c = ap (prefix_len is_in_line) (reverse-append before (c ∷ []))

newlines_push : (before : List ℕ) (c : ℕ) → count_by is_newline (before ++ c ∷ []) ≡ count_by is_newline before + cond (is_newline c) 1 0
newlines_push before c = sum_by_push (λ x. cond (is_newline x) 1 0) before c

place_next : (file : ℕ) (before : List ℕ) (c : ℕ) → next_place (place_after file before) c ≡ place_after file (before ++ c ∷ [])
place_next file before c =
    let lines = count_by is_newline before in
    let bytes = suffix_len is_in_line before in
    cond_both (is_newline c) (place file (1 + lines + 1) 1) (place file (1 + lines) (1 + bytes + 1)) (λ at. at ≡ place_after file (before ++ c ∷ []))
    (λ new.
    let line : 1 + lines + 1 ≡ 1 + count_by is_newline (before ++ c ∷ []) = omega (arith, newlines_push before c, cond-true {A = ℕ} (is_newline c) 1 0 new) in
    let col : 1 ≡ 1 + suffix_len is_in_line (before ++ c ∷ []) = omega (arith, in_line_push before c, cond-false {A = ℕ} (is_in_line c) (1 + bytes) 0 (not_from_true (is_newline c) new)) in
    ap (λ l. place file l 1) line ∙ ap (λ k. place file (1 + count_by is_newline (before ++ c ∷ [])) k) col)
    (λ same.
    let line : 1 + lines ≡ 1 + count_by is_newline (before ++ c ∷ []) = omega (arith, newlines_push before c, cond-false {A = ℕ} (is_newline c) 1 0 same) in
    let col : 1 + bytes + 1 ≡ 1 + suffix_len is_in_line (before ++ c ∷ []) = omega (arith, in_line_push before c, cond-true {A = ℕ} (is_in_line c) (1 + bytes) 0 (not_from_false (is_newline c) same)) in
    ap (λ l. place file l (1 + bytes + 1)) line ∙ ap (λ k. place file (1 + count_by is_newline (before ++ c ∷ [])) k) col)

pub moved_place : (file : ℕ) (before bytes : List ℕ) → place_moved (place_after file before) bytes ≡ place_after file (before ++ bytes)
moved_place file before [] = ap (place_after file) (sym (append-nil before))
moved_place file before (c ∷ cs) =
    ap (λ at. place_moved at cs) (place_next file before c)
    ∙ moved_place file (before ++ c ∷ []) cs
    ∙ ap (place_after file) (append_assoc before (c ∷ []) cs)

-- no place is further than its bytes are many
pub line_within : (file : ℕ) (before : List ℕ) → (place_after file before).line ≤ 1 + length before
line_within file before = omega (arith, count_by-le-length is_newline before)

pub col_within : (file : ℕ) (before : List ℕ) → (place_after file before).col ≤ 1 + length before
col_within file before = omega (arith, suffix_len-le-length is_in_line before)
