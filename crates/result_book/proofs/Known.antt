-- Answers with the last words of their tests, as the read tests have them.
use Rattle.result_book.proofs.Common.{◌≡◌, inl, inr, arith, ℕ, ◌<◌, Bool, true, false, not, ◌==◌, List, [], ◌∷◌, ◌++◌, Option, None, Some, refl, sym, ◌∙◌, ap, if◌then◌else◌, filter, find, is_none}
use Rattle.result_book.proofs.Common.{slice_index, option_or, Decides-eqb, eqb_tells, slice_get_within, Course, ended, failed, reads, AreAmong, Outcome, is_expected, outcome_of, word_at, AreBelow}
use Rattle.result_book.proofs.Common.{Answer, known_first, known_of, word_in, words_of}
use Rattle.std.specs.Prelude.{slice_get}
use Rattle.result_book.proofs.Asked.{AreSome, is_missing, read_out}
use Rattle.result_book.proofs.Pairs.{none_or}
use Rattle.result_book.proofs.Words.{length-words_of, word_at-words_of}
use Rattle.result_book.proofs.Keeping.{inside_by}

-- each answer has the last word of its test
abbrev pub AreOf : List (Option ℕ) → List Answer → Type 0
AreOf last [] = Unit {0}
AreOf last (a ∷ more) = (word_at last a.test ≡ Some a.word) × AreOf last more

first_are : (last : List (Option ℕ)) (test : ℕ) (o : Option ℕ) (behind : List Answer) → word_at last test ≡ o → AreOf last behind → AreOf last (known_first test o behind)
first_are last test None behind at rest = tt
first_are last test (Some word) behind at rest = (at, rest)

-- those that are known are such
pub known_are : (last : List (Option ℕ)) (tests : List ℕ) → AreOf last (known_of last tests)
known_are last [] = tt
known_are last (t ∷ tests) = first_are last t (word_at last t) (known_of last tests) refl (known_are last tests)

pub part_are : (last : List (Option ℕ)) (part rest : List Answer) → AreOf last (part ++ rest) → AreOf last part
part_are last [] rest all = tt
part_are last (a ∷ part) rest all = (all.0, part_are last part rest all.1)

pub rest_are : (last : List (Option ℕ)) (part rest : List Answer) → AreOf last (part ++ rest) → AreOf last rest
rest_are last [] rest all = all
rest_are last (a ∷ part) rest all = rest_are last part rest all.1

word_or : (last : List (Option ℕ)) (t word : ℕ) (o : Option ℕ) (a : Answer) (b : Bool) → (b ≡ true → a.test ≡ t) → word_at last a.test ≡ Some a.word → (o ≡ Some word → word_at last t ≡ Some word)
    → option_or o (if b then Some a.word else None) ≡ Some word → word_at last t ≡ Some word
word_or last t word (Some v) a b same known behind at = behind at
word_or last t word None a true same known behind at = ap (word_at last) (sym (same refl)) ∙ known ∙ at
word_or last t word None a false same known behind at = absurd (let never : None ≡ Some word = at in cc)

pub word_of : (last : List (Option ℕ)) (answers : List Answer) (t word : ℕ) → AreOf last answers → word_in answers t ≡ Some word → word_at last t ≡ Some word
word_of last [] t word all at = absurd (let never : None ≡ Some word = at in cc)
word_of last (a ∷ answers) t word all at = word_or last t word (word_in answers t) a (a.test == t) ((Decides-eqb a.test t).0) all.0 (word_of last answers t word all.1) at

-- a test with a word is one of 16
word_inside : (answers : List Answer) (t word : ℕ) → word_at (words_of answers) t ≡ Some word → t < 16
word_inside answers t word at = omega (arith, slice_get_within (words_of answers) t (Some word) (inside_by (slice_get (words_of answers) t) word at), length-words_of answers)

-- so their words are some of the last words
pub are_some : (last : List (Option ℕ)) (answers : List Answer) → AreOf last answers → AreSome (words_of answers) last
are_some last answers all = record {
  same = λ t word at. word_of last answers t word all (sym (word_at-words_of answers t (word_inside answers t word at)) ∙ at);
}

-- Words that are alike on tests in this order, up to the first test without one.

abbrev pub AreAlike : List (Option ℕ) → List (Option ℕ) → List ℕ → Type 0
AreAlike some all [] = Unit {0}
AreAlike some all (t ∷ tests) = (word_at some t ≡ word_at all t) × ((word : ℕ) → word_at all t ≡ Some word → AreAlike some all tests)

find_step : (t : ℕ) (o all rest behind : Option ℕ) → o ≡ all → ((word : ℕ) → all ≡ Some word → rest ≡ behind) → (if is_none o then Some t else rest) ≡ (if is_none all then Some t else behind)
find_step t o None rest behind same more = ap (λ (x : Option ℕ). if is_none x then Some t else rest) same
find_step t o (Some word) rest behind same more = ap (λ (x : Option ℕ). if is_none x then Some t else rest) same ∙ more word refl

pub find_alike : (some all : List (Option ℕ)) (tests : List ℕ) → AreAlike some all tests → find (is_missing some) tests ≡ find (is_missing all) tests
find_alike some all [] alike = refl
find_alike some all (t ∷ tests) alike =
    find_step t (word_at some t) (word_at all t) (find (is_missing some) tests) (find (is_missing all) tests) alike.0 (λ word at. find_alike some all tests (alike.1 word at))

known_step : (t : ℕ) (o all : Option ℕ) (rest behind : List Answer) → o ≡ all → ((word : ℕ) → all ≡ Some word → rest ≡ behind) → known_first t o rest ≡ known_first t all behind
known_step t o None rest behind same more = ap (λ (x : Option ℕ). known_first t x rest) same
known_step t o (Some word) rest behind same more = ap (λ (x : Option ℕ). known_first t x rest) same ∙ ap (known_first t (Some word)) (more word refl)

pub known_alike : (some all : List (Option ℕ)) (tests : List ℕ) → AreAlike some all tests → known_of some tests ≡ known_of all tests
known_alike some all [] alike = refl
known_alike some all (t ∷ tests) alike = known_step t (word_at some t) (word_at all t) (known_of some tests) (known_of all tests) alike.0 (λ word at. known_alike some all tests (alike.1 word at))

same_word : (o all : Option ℕ) → ((word : ℕ) → o ≡ Some word → all ≡ Some word) → ((word : ℕ) → o ≡ None → all ≡ Some word → ⊥) → o ≡ all
same_word (Some word) all some never = sym (some word refl)
same_word None None some never = refl
same_word None (Some word) some never = absurd (never word refl refl)

-- a test that comes first has its word
first_word : (t word : ℕ) (behind : List Answer) → word_in (known_first t (Some word) behind) t ≡ None → ⊥
first_word t word behind none =
    let is : (t == t) ≡ true = (Decides-eqb t t).1 refl in
    let some : Some word ≡ None = sym (ap (λ (b : Bool). if b then Some word else None) is) ∙ (none_or (word_in behind t) (if t == t then Some word else None) none).1 in
    cc

-- answers with words of their tests, among them those that are known, are alike with all
known_words : (last : List (Option ℕ)) (answers : List Answer) → AreOf last answers → (tests : List ℕ) → AreBelow 16 tests → ((t : ℕ) → word_in answers t ≡ None → word_in (known_of last tests) t ≡ None) → AreAlike (words_of answers) last tests
known_words last answers all [] few there = tt
known_words last answers all (t ∷ tests) few there = (
  word_at-words_of answers t few.0
      ∙ same_word (word_in answers t) (word_at last t) (λ word at. word_of last answers t word all at) (λ word none at. first_word t word (known_of last tests) (sym (ap (λ (o : Option ℕ). word_in (known_first t o (known_of last tests)) t) at) ∙ there t none)),
  λ word at. known_words last answers all tests few.1
      (λ x none. (none_or (word_in (known_of last tests) x) (if t == x then Some word else None) (sym (ap (λ (o : Option ℕ). word_in (known_first t o (known_of last tests)) x) at) ∙ there x none)).0),
)

pub read_alike : (last : List (Option ℕ)) (tests : List ℕ) → AreBelow 16 tests → AreAlike (words_of (known_of last tests)) last tests
read_alike last tests few = known_words last (known_of last tests) (known_are last tests) tests few (λ t none. none)

-- What is known of the tests that are asked does not depend on the words that are not there.

abbrev is_other : ℕ → Answer → Bool
is_other test a = not (a.test == test)

known_keep : (test x : ℕ) (o : Option ℕ) (kept rest : List Answer) → (x == test) ≡ false → kept ≡ filter (is_other test) rest → known_first x o kept ≡ filter (is_other test) (known_first x o rest)
known_keep test x None kept rest other same = refl
known_keep test x (Some word) kept rest other same =
    ap (known_first x (Some word)) same
    ∙ sym (ap (λ (b : Bool). if not b then record { test = x; word = word } ∷ filter (is_other test) rest else filter (is_other test) rest) other)

known_filter : (some : List (Option ℕ)) (test word : ℕ) → word_at some test ≡ Some word → (xs : List ℕ) → known_of some (filter (λ x. not (x == test)) xs) ≡ filter (is_other test) (known_of some xs)
known_filter some test word at [] = refl
known_filter some test word at (x ∷ xs) =
    let kept : List ℕ = filter (λ y. not (y == test)) xs in
    let rest : List Answer = known_of some xs in
    let behind : known_of some kept ≡ filter (is_other test) rest = known_filter some test word at xs in
    elim (eqb_tells x test) [
      | inl h ↦ (let here : word_at some x ≡ Some word = ap (word_at some) h.1 ∙ at in
          ap (λ (b : Bool). known_of some (if not b then x ∷ kept else kept)) h.0 ∙ behind
          ∙ sym (ap (λ (b : Bool). if not b then record { test = x; word = word } ∷ filter (is_other test) rest else filter (is_other test) rest) h.0)
          ∙ sym (ap (λ (o : Option ℕ). filter (is_other test) (known_first x o rest)) here))
      | inr h ↦ ap (λ (b : Bool). known_of some (if not b then x ∷ kept else kept)) h.0 ∙ known_keep test x (word_at some x) (known_of some kept) rest h.0 behind
    ]

none_known : (some : List (Option ℕ)) (test : ℕ) (b : Bool) (behind : Outcome) → word_at some test ≡ None → known_of some (read_out test b behind).asked ≡ []
none_known some test true behind none = ap (λ (o : Option ℕ). known_first test o (known_of some (filter (λ x. not (x == test)) behind.asked))) none
none_known some test false behind none = ap (λ (o : Option ℕ). known_first test o []) none

some_known : (some : List (Option ℕ)) (test word : ℕ) (b : Bool) (one other : Outcome) → word_at some test ≡ Some word → known_of some one.asked ≡ known_of some other.asked → known_of some (read_out test b one).asked ≡ known_of some (read_out test b other).asked
some_known some test word true one other at same =
    ap (known_first test (word_at some test)) (known_filter some test word at one.asked ∙ ap (filter (is_other test)) same ∙ sym (known_filter some test word at other.asked))
some_known some test word false one other at same = refl

known_reads : (expect : List ℕ) (some : List (Option ℕ)) (ws vs : List ℕ) (test : ℕ) (goes : ℕ → Course ℕ) (o : Option ℕ) → word_at some test ≡ o
    → ((word : ℕ) → word_at some test ≡ Some word → slice_index ws test ≡ word) → ((word : ℕ) → word_at some test ≡ Some word → slice_index vs test ≡ word)
    → ((word : ℕ) → known_of some (outcome_of expect ws (goes word)).asked ≡ known_of some (outcome_of expect vs (goes word)).asked)
    → known_of some (read_out test (is_expected expect test (slice_index ws test)) (outcome_of expect ws (goes (slice_index ws test)))).asked
    ≡ known_of some (read_out test (is_expected expect test (slice_index vs test)) (outcome_of expect vs (goes (slice_index vs test)))).asked
known_reads expect some ws vs test goes None at in_ws in_vs same =
    none_known some test (is_expected expect test (slice_index ws test)) (outcome_of expect ws (goes (slice_index ws test))) at
    ∙ sym (none_known some test (is_expected expect test (slice_index vs test)) (outcome_of expect vs (goes (slice_index vs test))) at)
known_reads expect some ws vs test goes (Some word) at in_ws in_vs same =
    ap (λ (w : ℕ). known_of some (read_out test (is_expected expect test w) (outcome_of expect ws (goes w))).asked) (in_ws word at)
    ∙ some_known some test word (is_expected expect test word) (outcome_of expect ws (goes word)) (outcome_of expect vs (goes word)) at (same word)
    ∙ sym (ap (λ (w : ℕ). known_of some (read_out test (is_expected expect test w) (outcome_of expect vs (goes w))).asked) (in_vs word at))

pub known_among : (expect : List ℕ) (some : List (Option ℕ)) (ws vs : List ℕ) (c : Course ℕ) → AreAmong some ws → AreAmong some vs → known_of some (outcome_of expect ws c).asked ≡ known_of some (outcome_of expect vs c).asked
unfolding outcome_of
known_among expect some ws vs (ended tags) in_ws in_vs = refl
known_among expect some ws vs (failed line) in_ws in_vs = refl
known_among expect some ws vs (reads test goes) in_ws in_vs =
    known_reads expect some ws vs test goes (word_at some test) refl (in_ws.same test) (in_vs.same test) (λ word. known_among expect some ws vs (goes word) in_ws in_vs)
