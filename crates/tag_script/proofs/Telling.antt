-- What is heard by the words that there are is what the outcome by all words tells.
use Rattle.tag_script.proofs.Common.{◌≡◌, ℕ, Bool, true, false, not, ◌==◌, List, [], ◌∷◌, Option, Some, None, Result, Ok, Err, refl, sym, ap, ◌∙◌, if◌then◌else◌, filter, find, is_none, slice_index}
use Rattle.tag_script.proofs.Common.{Stop, Course, ended, failed, reads, ask_told, heard, on_word, word_by, word_read}
use Rattle.std.proofs.lemmas.Bool.Decides.{Decides-eqb}
use Rattle.tag_script.specs.declared.answer.Ask.TheVariants as ask
use Rattle.tag_script.specs.declared.evaluation.Stop.TheVariants as stop
use Rattle.tag_script.specs.Outcomes.{AreAmong, End, Outcome, asking, first_told, is_expected, outcome_of, told, unexpected, word_at}

abbrev is_missing : List (Option ℕ) → ℕ → Bool
is_missing results test = is_none (word_at results test)

-- A test that has a word is not the first that has none.

skip_if : (p : ℕ → Bool) (test x : ℕ) (b : Bool) (kept rest : List ℕ) → (b ≡ true → x ≡ test) → p test ≡ false → find p kept ≡ find p rest → find p (if not b then x ∷ kept else kept) ≡ (if p x then Some x else find p rest)
skip_if p test x true kept rest same known h =
    let e : p x ≡ false = ap p (same refl) ∙ known in
    h ∙ ap (λ (m : Bool). if m then Some x else find p rest) (sym e)
skip_if p test x false kept rest same known h = ap (λ (o : Option ℕ). if p x then Some x else o) h

skipped : (p : ℕ → Bool) (test : ℕ) → p test ≡ false → (xs : List ℕ) → find p (filter (λ other. not (other == test)) xs) ≡ find p xs
skipped p test known [] = refl
skipped p test known (x ∷ xs) = skip_if p test x (x == test) (filter (λ other. not (other == test)) xs) xs ((Decides-eqb x test).0) known (skipped p test known xs)

told_asking : (results : List (Option ℕ)) (test : ℕ) (outcome : Outcome) → is_missing results test ≡ false → told results (asking test outcome) ≡ told results outcome
unfolding told
told_asking results test outcome known =
    ap (λ (m : Bool). first_told (if m then Some test else find (is_missing results) (filter (λ other. not (other == test)) outcome.asked)) outcome.ends) known
    ∙ ap (λ (o : Option ℕ). first_told o outcome.ends) (skipped (is_missing results) test known outcome.asked)

told_missing : (results : List (Option ℕ)) (test : ℕ) (rest : List ℕ) (ends : End) → is_missing results test ≡ true → told results (record { asked = test ∷ rest; ends = ends }) ≡ ask.Need test
unfolding told
told_missing results test rest ends missing = ap (λ (m : Bool). first_told (if m then Some test else find (is_missing results) rest) ends) missing

told_known : (results : List (Option ℕ)) (test : ℕ) (ends : End) → is_missing results test ≡ false → told results (record { asked = test ∷ []; ends = ends }) ≡ first_told None ends
unfolding told
told_known results test ends known = ap (λ (m : Bool). first_told (if m then Some test else None) ends) known

-- A test whose word is read.

abbrev end_here : ℕ → Outcome
end_here test = record { asked = test ∷ []; ends = unexpected test }

none_if : (results : List (Option ℕ)) (test : ℕ) (b : Bool) (outcome : Outcome) → is_missing results test ≡ true → told results (if b then asking test outcome else end_here test) ≡ ask.Need test
none_if results test true outcome missing = told_missing results test (filter (λ other. not (other == test)) outcome.asked) outcome.ends missing
none_if results test false outcome missing = told_missing results test [] (unexpected test) missing

some_if : (results : List (Option ℕ)) (test word : ℕ) (b : Bool) (outcome : Outcome) (next : ℕ → Result ℕ Stop) → is_missing results test ≡ false → told results outcome ≡ ask_told (next word) → told results (if b then asking test outcome else end_here test) ≡ ask_told (on_word (if b then Ok word else Err (stop.Unexpected test)) next)
some_if results test word true outcome next known h = told_asking results test outcome known ∙ h
some_if results test word false outcome next known h = told_known results test (unexpected test) known

read_told : (expect : List ℕ) (results : List (Option ℕ)) (words : List ℕ) (test : ℕ) (goes : ℕ → Course ℕ) (o : Option ℕ) → word_at results test ≡ o → ((word : ℕ) → word_at results test ≡ Some word → slice_index words test ≡ word) → ((word : ℕ) → told results (outcome_of expect words (goes word)) ≡ ask_told (heard expect results (goes word))) → told results (if is_expected expect test (slice_index words test) then asking test (outcome_of expect words (goes (slice_index words test))) else end_here test) ≡ ask_told (on_word (word_by expect test (word_at results test)) (λ word. heard expect results (goes word)))
read_told expect results words test goes None e same h =
    none_if results test (is_expected expect test (slice_index words test)) (outcome_of expect words (goes (slice_index words test))) (ap (λ (o : Option ℕ). is_none o) e)
    ∙ sym (ap (λ (o : Option ℕ). ask_told (on_word (word_by expect test o) (λ word. heard expect results (goes word)))) e)
read_told expect results words test goes (Some word) e same h =
    ap (λ (w : ℕ). told results (if is_expected expect test w then asking test (outcome_of expect words (goes w)) else end_here test)) (same word e)
    ∙ (some_if results test word (is_expected expect test word) (outcome_of expect words (goes word)) (λ word. heard expect results (goes word)) (ap (λ (o : Option ℕ). is_none o) e) (h word)
    ∙ sym (ap (λ (o : Option ℕ). ask_told (on_word (word_by expect test o) (λ word. heard expect results (goes word)))) e))

pub told_heard : (expect : List ℕ) (results : List (Option ℕ)) (words : List ℕ) (c : Course ℕ) → AreAmong results words → told results (outcome_of expect words c) ≡ ask_told (heard expect results c)
unfolding told outcome_of heard word_read
told_heard expect results words (ended tags) among = refl
told_heard expect results words (failed line) among = refl
told_heard expect results words (reads test goes) among = read_told expect results words test goes (word_at results test) refl (λ word e. among.same test word e) (λ word. told_heard expect results words (goes word) among)
