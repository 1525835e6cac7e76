-- Blanks and words of a text, and where it may be cut.
use Rattle.project_lines.proofs.Common.{◌≡◌, ◌≢◌, ◌==◌, take_all, length-drop, true≢false, ℕ, zero, suc, ◌+◌, ◌-◌, ◌<◌, ◌≤◌, Bool, true, false, cond, not, List, [], ◌∷◌, ◌++◌, append_assoc, length}
use Rattle.project_lines.proofs.Common.{take, drop, get_or, refl, sym, ap, ◌∙◌, subst, arith, IsUtf8, IsCharBoundary, one-add, add-one, filter, prefix_len, suffix_len, slice_split, onto_first}
use Rattle.project_lines.proofs.Common.{nat_tests, prefix_len-le-length, prefix_len_passes, prefix_len_stops, suffix_len_is, slice_split-cons_yes, slice_split-cons_no, IsCharBoundary-start}
use Rattle.project_lines.proofs.Common.{IsCharBoundary-after_ascii, last_part, behind_word, from_word, front_word, is_blank, is_filled, is_of_word, without_blanks_behind, words}

pub blank-ascii : (b : ℕ) → is_blank b ≡ true → b < 128
unfolding is_blank
blank-ascii b h = grind (arith, nat_tests)

not-not : (b : Bool) → not b ≡ false → b ≡ true
not-not true h = refl
not-not false h = absurd (true≢false h)

blank-no_word : (b : ℕ) → is_of_word b ≡ false → is_blank b ≡ true
blank-no_word b h = not-not (is_blank b) h

behind_blanks : (t : List ℕ) (n : ℕ) → IsUtf8 t → n ≤ length t → ((k : ℕ) → k < n → is_blank (get_or t k 0) ≡ true) → IsCharBoundary t n
behind_blanks t zero u l h = IsCharBoundary-start t u
behind_blanks t (suc m) u l h =
    let cut : IsCharBoundary t (m + 1) = IsCharBoundary-after_ascii t m u (omega arith) (blank-ascii (get_or t m 0) (h m (omega arith))) in
    subst (IsCharBoundary t) (add-one m) cut

-- a text may be cut behind the blanks in front
pub boundary-from_word : (t : List ℕ) → IsUtf8 t → IsCharBoundary t (prefix_len is_blank t)
boundary-from_word t u = behind_blanks t (prefix_len is_blank t) u (prefix_len-le-length is_blank t) (λ k l. prefix_len_passes is_blank t k 0 l)

-- and in front of a blank
pub boundary-before_blank : (t : List ℕ) (n : ℕ) → n ≤ length t → (n < length t → is_blank (get_or t n 0) ≡ true) → IsCharBoundary t n
boundary-before_blank t n l h = (l, λ inside high. absurd (omega (arith, blank-ascii (get_or t n 0) (h inside))))

pub boundary-word : (t : List ℕ) → IsCharBoundary t (prefix_len is_of_word t)
boundary-word t = boundary-before_blank t (prefix_len is_of_word t) (prefix_len-le-length is_of_word t) (λ inside. blank-no_word (get_or t (prefix_len is_of_word t) 0) (prefix_len_stops is_of_word t 0 inside))

-- Words.

words-blank : (b : ℕ) (t : List ℕ) → is_blank b ≡ true → words (b ∷ t) ≡ words t
unfolding words
words-blank b t h = ap (filter is_filled) (slice_split-cons_yes is_blank b t h)

drop-more : (n b : ℕ) (t : List ℕ) → drop (1 + n) (b ∷ t) ≡ drop n t
drop-more n b t = ap (λ k. drop k (b ∷ t)) (one-add n)

words-drop_step : (v : Bool) (b : ℕ) (t : List ℕ) (n : ℕ) → is_blank b ≡ v → words (drop n t) ≡ words t → words (drop (cond v (1 + n) 0) (b ∷ t)) ≡ words (b ∷ t)
words-drop_step true b t n h e = ap words (drop-more n b t) ∙ (e ∙ sym (words-blank b t h))
words-drop_step false b t n h e = refl

words-drop : (t : List ℕ) → words (drop (prefix_len is_blank t) t) ≡ words t
words-drop [] = refl
words-drop (b ∷ t) = words-drop_step (is_blank b) b t (prefix_len is_blank t) refl (words-drop t)

pub words-from_word : (t : List ℕ) → words (from_word t) ≡ words t
unfolding from_word
words-from_word t = words-drop t

blanks-drop_step : (v : Bool) (b : ℕ) (t : List ℕ) (n : ℕ) → is_blank b ≡ v → prefix_len is_blank (drop n t) ≡ 0 → prefix_len is_blank (drop (cond v (1 + n) 0) (b ∷ t)) ≡ 0
blanks-drop_step true b t n h e = ap (prefix_len is_blank) (drop-more n b t) ∙ e
blanks-drop_step false b t n h e = ap (λ v. cond v (1 + prefix_len is_blank t) 0) h

blanks-drop : (t : List ℕ) → prefix_len is_blank (drop (prefix_len is_blank t) t) ≡ 0
blanks-drop [] = refl
blanks-drop (b ∷ t) = blanks-drop_step (is_blank b) b t (prefix_len is_blank t) refl (blanks-drop t)

pub blanks-from_word : (t : List ℕ) → prefix_len is_blank (from_word t) ≡ 0
unfolding from_word
blanks-from_word t = blanks-drop t

-- the parts of a text between blanks: the first is its word, and none stands in front of what is behind it
record Parted (t : List ℕ) (n : ℕ) : Type 0 where
  more : List (List ℕ)
  parts : slice_split is_blank t ≡ take n t ∷ more
  behind : slice_split is_blank (drop n t) ≡ [] ∷ more

parted-step : (v : Bool) (b : ℕ) (t : List ℕ) (n : ℕ) → is_blank b ≡ v → Parted t n → Parted (b ∷ t) (cond (not v) (1 + n) 0)
parted-step true b t n h p = record {
  more = slice_split is_blank t;
  parts = slice_split-cons_yes is_blank b t h;
  behind = slice_split-cons_yes is_blank b t h;
}
parted-step false b t n h p = record {
  more = p.more;
  parts = slice_split-cons_no is_blank b t h ∙ (ap (onto_first b) p.parts ∙ ap (λ k. take k (b ∷ t) ∷ p.more) (sym (one-add n)));
  behind = ap (slice_split is_blank) (drop-more n b t) ∙ p.behind;
}

parted : (t : List ℕ) → Parted t (prefix_len is_of_word t)
parted [] = record { more = []; parts = refl; behind = refl }
parted (b ∷ t) = parted-step (is_blank b) b t (prefix_len is_of_word t) refl (parted t)

filled-step : (v : Bool) (b : ℕ) (t : List ℕ) (n : ℕ) → cond v (1 + prefix_len is_blank t) 0 ≡ 0 → 0 < length (take (cond (not v) (1 + n) 0) (b ∷ t))
filled-step true b t n h = absurd (omega arith)
filled-step false b t n h = subst (λ k. 0 < length (take k (b ∷ t))) (sym (one-add n)) (omega arith)

word-filled_at : (t : List ℕ) → 0 < length t → prefix_len is_blank t ≡ 0 → 0 < length (take (prefix_len is_of_word t) t)
word-filled_at [] l h = absurd (omega arith)
word-filled_at (b ∷ t) l h = filled-step (is_blank b) b t (prefix_len is_of_word t) h

pub word-filled : (t : List ℕ) → 0 < length t → prefix_len is_blank t ≡ 0 → 0 < length (front_word t)
unfolding front_word
word-filled t l h = word-filled_at t l h

keep-filled : (w : List ℕ) (more : List (List ℕ)) → 0 < length w → filter is_filled (w ∷ more) ≡ w ∷ filter is_filled more
keep-filled [] more l = absurd (omega arith)
keep-filled (b ∷ w) more l = grind (arith, nat_tests)

words-parted : (t : List ℕ) (n : ℕ) → Parted t n → 0 < length (take n t) → words t ≡ take n t ∷ words (drop n t)
unfolding words
words-parted t n p l =
    ap (filter is_filled) p.parts ∙ (keep-filled (take n t) p.more l ∙ ap (λ ws. take n t ∷ ws) (sym (ap (filter is_filled) p.behind)))

-- a text that begins with a word has that word, and the words behind it
pub words-word : (t : List ℕ) → 0 < length t → prefix_len is_blank t ≡ 0 → words t ≡ front_word t ∷ words (behind_word t)
unfolding front_word behind_word
words-word t l h = words-parted t (prefix_len is_of_word t) (parted t) (word-filled_at t l h)

pub words-none : (t : List ℕ) → length t ≡ 0 → words t ≡ []
unfolding words
words-none [] h = refl
words-none (b ∷ t) h = absurd (omega arith)

-- a text that is cut behind its last byte that is no blank
pub trimmed-is : (t : List ℕ) (n : ℕ) → n ≤ length t → ((k : ℕ) → n ≤ k → k < length t → is_blank (get_or t k 0) ≡ true) → (0 < n → is_blank (get_or t (n - 1) 0) ≡ false) → take n t ≡ without_blanks_behind t
unfolding without_blanks_behind
trimmed-is t n l h stop =
    let e : suffix_len is_blank t ≡ length t - n = suffix_len_is is_blank t n 0 l h stop in
    let f : n ≡ length t - suffix_len is_blank t = omega (arith, e) in
    ap (λ k. take k t) f

-- one word more
pub words-more : (t : List ℕ) (done : List (List ℕ)) (whole : List ℕ) → 0 < length t → prefix_len is_blank t ≡ 0 → done ++ words t ≡ words whole → (done ++ front_word t ∷ []) ++ words (from_word (behind_word t)) ≡ words whole
words-more t done whole l h e =
    append_assoc done (front_word t ∷ []) (words (from_word (behind_word t)))
    ∙ (ap (λ ws. done ++ front_word t ∷ ws) (words-from_word (behind_word t))
    ∙ (ap (λ ws. done ++ ws) (sym (words-word t l h)) ∙ e))

no_slash : (b : ℕ) → b ≢ 47 → not (b == 47) ≡ true
no_slash b h = grind (arith, nat_tests)

slash : (b : ℕ) → b ≡ 47 → not (b == 47) ≡ false
slash b h = grind (arith, nat_tests)

-- a path that is cut behind its last `/`
pub part-is : (t : List ℕ) (n : ℕ) → n ≤ length t → ((k : ℕ) → n ≤ k → k < length t → get_or t k 0 ≢ 47) → (0 < n → get_or t (n - 1) 0 ≡ 47) → take (length t - n) (drop n t) ≡ last_part t
unfolding last_part
part-is t n l h stop =
    let e : suffix_len (λ byte. not (byte == 47)) t ≡ length t - n = suffix_len_is (λ byte. not (byte == 47)) t n 0 l (λ k le lt. no_slash (get_or t k 0) (h k le lt)) (λ some. slash (get_or t (n - 1) 0) (stop some)) in
    let f : n ≡ length t - suffix_len (λ byte. not (byte == 47)) t = omega (arith, e) in
    take_all (length t - n) (drop n t) (omega (arith, length-drop n t)) ∙ ap (λ k. drop k t) f
