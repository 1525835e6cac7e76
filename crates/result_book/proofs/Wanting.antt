-- What a run wants of a mutation, and how it is found.
use Rattle.result_book.proofs.Common.{◌≡◌, ◌≢◌, inl, inr, arith, ℕ, zero, suc, ◌<◌, ◌≤◌, Bool, true, false, ◌&&◌, List, [], ◌∷◌, ◌++◌, length, Option, None, Some, refl, sym, ◌∙◌, ap, subst}
use Rattle.result_book.proofs.Common.{if◌then◌else◌, ◌⊎◌, IsSomeAnd, IsTrue, find, is_none, nat_le, option_map, slice_index, and_parts, leb-true, Entry, Ask, Need, End, Outcome, assert_failed, done}
use Rattle.result_book.proofs.Common.{first_told, script_outcome, told, unexpected, word_at, Campaign, IsFit, IsGoal, is_given_up, is_in, is_open, next_bound, open_test, want_of, wanted, wanted_by}
use Rattle.result_book.proofs.Common.{is_limit, is_round, max_limit, AreRows, MayFollow, answers_of, ask_on, bounds_on, Answer, ask_by, asked_on, filled, is_ended, known_first, known_of, read_answers}
use Rattle.result_book.proofs.Common.{word_in, words_of, kept_word, kept_words}
use Rattle.result_book.specs.declared.goal.Goal.{Goal}
use Rattle.result_book.specs.declared.goal.Want.{Want}
use Rattle.result_book.proofs.Asked.{all_some, ask_first, asked_fit, ends_on, found_below, is_missing}
use Rattle.result_book.proofs.Asking.{found_by, found_true}
use Rattle.result_book.proofs.Grouping.{answers_of-other, bounds_on-other, length-bounds_on}
use Rattle.result_book.proofs.Pairs.{new_pair}
use Rattle.result_book.proofs.Reading.{Reads, reads_any}
use Rattle.result_book.proofs.Standing.{bound_known, given_up_parts}
use Rattle.result_book.proofs.Words.{length-words_of, word_at-words_of}

-- a row of another mutation leaves what is wanted of this one
pub wanted-other : (c : Campaign) (rows : List Entry) (m : ℕ) (goal : Goal) (e : Entry) → e.mutation ≢ m → wanted c (rows ++ e ∷ []) m goal ≡ wanted c rows m goal
wanted-other c rows m goal e other = rw (answers_of-other m rows e other, bounds_on-other m rows e other) refl

none_none : {X Y : Type 0} (f : X → Y) (o : Option X) → option_map f o ≡ None → o ≡ None
none_none f None is = refl
none_none f (Some x) is = absurd (let never : Some (f x) ≡ None = is in cc)

not_open : (t : ℕ) (b : Bool) (rest behind : Option ℕ) → (if b then Some t else rest) ≡ None → (rest ≡ None → behind ≡ None) → behind ≡ None
not_open t true rest behind is more = absurd (let never : Some t ≡ None = is in cc)
not_open t false rest behind is more = more is

no_open_step : (t limit bound : ℕ) (o rest behind : Option ℕ) → (if is_open limit o bound then Some t else rest) ≡ None → (rest ≡ None → behind ≡ None) → (if is_none o then Some t else behind) ≡ None
no_open_step t limit bound None rest behind is more = is
no_open_step t limit bound (Some word) rest behind is more = not_open t (is_given_up limit word bound) rest behind is more

-- where no test is open none is without a word
no_open : (limit : ℕ) (words : List (Option ℕ)) (bounds : List ℕ) (tests : List ℕ) → find (λ t. is_open limit (word_at words t) (slice_index bounds t)) tests ≡ None → find (λ t. is_none (word_at words t)) tests ≡ None
no_open limit words bounds [] is = refl
no_open limit words bounds (t ∷ tests) is =
    no_open_step t limit (slice_index bounds t) (word_at words t) (find (λ x. is_open limit (word_at words x) (slice_index bounds x)) tests) (find (λ x. is_none (word_at words x)) tests) is (no_open limit words bounds tests)

ended_told : (ends : End) → is_ended (first_told None ends) ≡ true
ended_told (done tags) = refl
ended_told (assert_failed line) = refl
ended_told (unexpected test) = refl

-- a mutation of the run of which nothing is wanted is finished
pub unwanted_ended : (c : Campaign) (rows : List Entry) (m : ℕ) (goal : Goal) → is_in goal m ≡ true → wanted c rows m goal ≡ None → is_ended (ask_on c m rows) ≡ true
unfolding ask_by told asked_on
unwanted_ended c rows m goal over none =
    let words : List (Option ℕ) = words_of (answers_of m rows) in
    let bounds : List ℕ = bounds_on m rows in
    let by : wanted_by c words bounds goal.retry ≡ None = sym (ap (λ (b : Bool). if b then wanted_by c words bounds goal.retry else None) over) ∙ none in
    let outcome : Outcome = script_outcome c.expect (filled words) c.script in
    let missing = no_open goal.retry words bounds outcome.asked (none_none (want_of c words goal.retry) (open_test c words bounds goal.retry) by) in
    ap (λ (o : Option ℕ). is_ended (first_told o outcome.ends)) missing ∙ ended_told outcome.ends

-- The words that were not given up, of which the script is asked.

none_or_word : (b : Bool) (word : ℕ) → is_none (if b then None else Some word) ≡ b
none_or_word true word = refl
none_or_word false word = refl

open_kept : (limit : ℕ) (o : Option ℕ) (bound : ℕ) → is_none (kept_word limit o bound) ≡ is_open limit o bound
open_kept limit None bound = refl
open_kept limit (Some word) bound = none_or_word (is_given_up limit word bound) word

-- a test has none of them exactly where it is open
open_at : (limit : ℕ) (words : List (Option ℕ)) (bounds : List ℕ) (t : ℕ) → length words ≡ length bounds → is_missing (kept_words limit words bounds) t ≡ is_open limit (word_at words t) (slice_index bounds t)
open_at limit [] [] t same = refl
open_at limit [] (b ∷ bounds) t same = absurd (omega (arith, same))
open_at limit (w ∷ words) [] t same = absurd (omega (arith, same))
open_at limit (w ∷ words) (b ∷ bounds) zero same = open_kept limit w b
open_at limit (w ∷ words) (b ∷ bounds) (suc t) same = open_at limit words bounds t (omega (arith, same))

same_if : (b : Bool) (word w : ℕ) → (if b then None else Some word) ≡ Some w → Some word ≡ Some w
same_if true word w at = absurd (let never : None ≡ Some w = at in cc)
same_if false word w at = at

same_kept : (limit : ℕ) (o : Option ℕ) (bound w : ℕ) → kept_word limit o bound ≡ Some w → o ≡ Some w
same_kept limit None bound w at = at
same_kept limit (Some word) bound w at = same_if (is_given_up limit word bound) word w at

kept_at : (limit : ℕ) (words : List (Option ℕ)) (bounds : List ℕ) (t w : ℕ) → word_at (kept_words limit words bounds) t ≡ Some w → word_at words t ≡ Some w
kept_at limit [] [] t w at = at
kept_at limit [] (b ∷ bounds) t w at = at
kept_at limit (x ∷ words) [] t w at = at
kept_at limit (x ∷ words) (b ∷ bounds) zero w at = same_kept limit x b w at
kept_at limit (x ∷ words) (b ∷ bounds) (suc t) w at = kept_at limit words bounds t w at

find_same : (p q : ℕ → Bool) → ((x : ℕ) → p x ≡ q x) → (xs : List ℕ) → find p xs ≡ find q xs
find_same p q same [] = refl
find_same p q same (x ∷ xs) = rw (same x, find_same p q same xs) refl

-- The script is asked on them for the test that is open first.
pub open_asked : (c : Campaign) (words : List (Option ℕ)) (bounds : List ℕ) (limit : ℕ) → length words ≡ length bounds → ask_by c (kept_words limit words bounds) ≡ first_told (open_test c words bounds limit) (ends_on c words)
open_asked c words bounds limit same =
    ask_first c (kept_words limit words bounds) words (open_test c words bounds limit) (record { same = kept_at limit words bounds })
    (find_same (is_missing (kept_words limit words bounds)) (λ t. is_open limit (word_at words t) (slice_index bounds t)) (λ t. open_at limit words bounds t same) (asked_on c words))

-- so it needs a test where one is open, and none where none is
pub open_needed : (c : Campaign) (words : List (Option ℕ)) (bounds : List ℕ) (limit test : ℕ) → length words ≡ length bounds → ask_by c (kept_words limit words bounds) ≡ Need test → open_test c words bounds limit ≡ Some test
open_needed c words bounds limit test same is = found_by (open_test c words bounds limit) (ends_on c words) test (sym (open_asked c words bounds limit same) ∙ is)

ended_none : (found : Option ℕ) (ends : End) → is_ended (first_told found ends) ≡ true → found ≡ None
ended_none None ends is = refl
ended_none (Some test) ends is = absurd (let never : false ≡ true = is in cc)

pub open_ended : (c : Campaign) (words : List (Option ℕ)) (bounds : List ℕ) (limit : ℕ) → length words ≡ length bounds → is_ended (ask_by c (kept_words limit words bounds)) ≡ true → open_test c words bounds limit ≡ None
open_ended c words bounds limit same is = ended_none (open_test c words bounds limit) (ends_on c words) (sym (ap (λ (stands : Ask). is_ended stands) (open_asked c words bounds limit same)) ∙ is)

-- What a run wants by what the script asks for.

pub wanted_some : (c : Campaign) (rows : List Entry) (m : ℕ) (goal : Goal) (kept : List (Option ℕ)) (t bound : ℕ) → is_in goal m ≡ true → kept ≡ kept_words goal.retry (words_of (answers_of m rows)) (bounds_on m rows) → ask_by c kept ≡ Need t
    → bound ≡ next_bound c goal.retry t (word_at (words_of (answers_of m rows)) t) → Some (record { test = t; bound = bound }) ≡ wanted c rows m goal
wanted_some c rows m goal kept t bound over kept_is is bound_is =
    let words : List (Option ℕ) = words_of (answers_of m rows) in
    let bounds : List ℕ = bounds_on m rows in
    let found : open_test c words bounds goal.retry ≡ Some t = open_needed c words bounds goal.retry t (length-words_of (answers_of m rows) ∙ sym (length-bounds_on m rows)) (ap (ask_by c) (sym kept_is) ∙ is) in
    ap (λ (b : ℕ). Some (record { test = t; bound = b })) bound_is
    ∙ sym (ap (option_map (want_of c words goal.retry)) found)
    ∙ sym (ap (λ (b : Bool). if b then wanted_by c words bounds goal.retry else None) over)

pub wanted_none : (c : Campaign) (rows : List Entry) (m : ℕ) (goal : Goal) (kept : List (Option ℕ)) → is_in goal m ≡ true → kept ≡ kept_words goal.retry (words_of (answers_of m rows)) (bounds_on m rows) → is_ended (ask_by c kept) ≡ true → None ≡ wanted c rows m goal
wanted_none c rows m goal kept over kept_is is =
    let words : List (Option ℕ) = words_of (answers_of m rows) in
    let bounds : List ℕ = bounds_on m rows in
    let found : open_test c words bounds goal.retry ≡ None = open_ended c words bounds goal.retry (length-words_of (answers_of m rows) ∙ sym (length-bounds_on m rows)) (ap (λ (l : List (Option ℕ)). is_ended (ask_by c l)) (sym kept_is) ∙ is) in
    sym (ap (option_map (want_of c words goal.retry)) found)
    ∙ sym (ap (λ (b : Bool). if b then wanted_by c words bounds goal.retry else None) over)

-- What is open may come next.

abbrev open_in : ℕ → List (Option ℕ) → List ℕ → ℕ → Bool
open_in limit words bounds t = is_open limit (word_at words t) (slice_index bounds t)

-- an open test without a word is the first such one
open_new : (x t limit bound : ℕ) (o : Option ℕ) (rest behind : Option ℕ) → (if is_open limit o bound then Some x else rest) ≡ Some t → (x ≡ t → o ≡ None) → (rest ≡ Some t → behind ≡ Some t) → (if is_none o then Some x else behind) ≡ Some t
open_new x t limit bound None rest behind is new more = is
open_new x t limit bound (Some word) rest behind is new more = by (is_given_up limit word bound) is
  where
    by : (b : Bool) → (if b then Some x else rest) ≡ Some t → behind ≡ Some t
    by true here = absurd (let e : Some x ≡ Some t = here in let same : x ≡ t = cc in let never : Some word ≡ None = new same in cc)
    by false there = more there

new_first : (limit : ℕ) (words : List (Option ℕ)) (bounds : List ℕ) (t : ℕ) → word_at words t ≡ None → (tests : List ℕ) → find (open_in limit words bounds) tests ≡ Some t → find (is_missing words) tests ≡ Some t
new_first limit words bounds t none [] is = is
new_first limit words bounds t none (x ∷ tests) is =
    open_new x t limit (slice_index bounds x) (word_at words x) (find (open_in limit words bounds) tests) (find (is_missing words) tests) is (λ same. ap (word_at words) same ∙ none) (new_first limit words bounds t none tests)

-- one with a word is read
open_read : (x t limit bound word : ℕ) (o : Option ℕ) (rest : Option ℕ) (known : List Answer) → (if is_open limit o bound then Some x else rest) ≡ Some t → (x ≡ t → o ≡ Some word) → (rest ≡ Some t → Reads t known) → Reads t (known_first x o known)
open_read x t limit bound word None rest known is old more = absurd (let e : Some x ≡ Some t = is in let same : x ≡ t = cc in let never : None ≡ Some word = old same in cc)
open_read x t limit bound word (Some w) rest known is old more = by (is_given_up limit w bound) is
  where
    by : (b : Bool) → (if b then Some x else rest) ≡ Some t → (x ≡ t) ⊎ Reads t known
    by true here = inl (let e : Some x ≡ Some t = here in let same : x ≡ t = cc in same)
    by false there = inr (more there)

old_read : (limit : ℕ) (words : List (Option ℕ)) (bounds : List ℕ) (t word : ℕ) → word_at words t ≡ Some word → (tests : List ℕ) → find (open_in limit words bounds) tests ≡ Some t → Reads t (known_of words tests)
old_read limit words bounds t word some [] is = absurd (let never : None ≡ Some t = is in cc)
old_read limit words bounds t word some (x ∷ tests) is =
    open_read x t limit (slice_index bounds x) word (word_at words x) (find (open_in limit words bounds) tests) (known_of words tests) is (λ same. ap (word_at words) same ∙ some) (old_read limit words bounds t word some tests)

-- a limit of a run
limit_parts : (limit bound : ℕ) → bound < limit → (limit ≡ 0) ⊎ IsTrue (is_limit limit) → (is_round limit ≡ true) × (limit ≤ 100000)
limit_parts limit bound below goal = elim goal [
  | inl none ↦ absurd (omega (arith, none, below))
  | inr is ↦ (let both = and_parts (is_round limit) (nat_le 1 limit && nat_le limit max_limit) is in
      let range = and_parts (nat_le 1 limit) (nat_le limit max_limit) both.1 in
      (both.0, leb-true limit max_limit range.1))
]

follows_by : (c : Campaign) (rows : List Entry) (m t limit : ℕ) (o : Option ℕ) → IsFit c → m < length c.mutations → (limit ≡ 0) ⊎ IsTrue (is_limit limit) → t < 16 → word_at (words_of (answers_of m rows)) t ≡ o
    → open_test c (words_of (answers_of m rows)) (bounds_on m rows) limit ≡ Some t → MayFollow c rows m t (next_bound c limit t o)
follows_by c rows m t limit None fit mutation goal inside at is =
    let words : List (Option ℕ) = words_of (answers_of m rows) in
    inl (
      record {
        new = new_pair m t rows (sym (word_at-words_of (answers_of m rows) t inside) ∙ at);
        asked = ask_first c words words (Some t) (all_some words) (new_first limit words (bounds_on m rows) t at (asked_on c words) is);
      },
      refl,
    )
follows_by c rows m t limit (Some word) fit mutation goal inside at is =
    let words : List (Option ℕ) = words_of (answers_of m rows) in
    let bounds : List ℕ = bounds_on m rows in
    let now : is_open limit (word_at words t) (slice_index bounds t) ≡ true = found_true (open_in limit words bounds) (asked_on c words) t is in
    let given_up = given_up_parts limit word (slice_index bounds t) (sym (ap (λ (o : Option ℕ). is_open limit o (slice_index bounds t)) at) ∙ now) in
    let round = limit_parts limit (slice_index bounds t) given_up.1 goal in
    let some : word_in (answers_of m rows) t ≡ Some word = sym (word_at-words_of (answers_of m rows) t inside) ∙ at in
    inr (record {
      read = reads_any t (read_answers c (answers_of m rows)) (old_read limit words bounds t word at (asked_on c words) is);
      given_up = record { word = some ∙ ap Some given_up.0; below = subst (λ (o : Option ℕ). IsSomeAnd o (λ before. before < limit)) (sym (bound_known m t word rows inside some)) given_up.1 };
      round = round.0;
      most = round.1;
    })

pub wanted_at : (c : Campaign) (words : List (Option ℕ)) (limit : ℕ) (found : Option ℕ) (want : Want) → option_map (want_of c words limit) found ≡ Some want → (found ≡ Some want.test) × (want.bound ≡ next_bound c limit want.test (word_at words want.test))
wanted_at c words limit None want is = absurd (let never : None ≡ Some want = is in cc)
wanted_at c words limit (Some t) want is =
    let e : Some (want_of c words limit t) ≡ Some want = is in
    let same : want_of c words limit t ≡ want = cc in
    (ap (λ (w : Want). Some w.test) same, subst (λ (w : Want). w.bound ≡ next_bound c limit w.test (word_at words w.test)) same refl)

pub wanted_in : (b : Bool) (found : Option Want) (want : Want) → (if b then found else None) ≡ Some want → found ≡ Some want
wanted_in true found want is = is
wanted_in false found want is = absurd (let never : None ≡ Some want = is in cc)

-- What a run wants of a mutation may come next.
pub want_follows : (c : Campaign) (rows : List Entry) (m : ℕ) (goal : Goal) (want : Want) → IsFit c → IsGoal goal → AreRows c [] rows → m < length c.mutations → wanted c rows m goal ≡ Some want → (want.test < length c.kinds) × MayFollow c rows m want.test want.bound
want_follows c rows m goal want fit is_goal all mutation is =
    let words : List (Option ℕ) = words_of (answers_of m rows) in
    let bounds : List ℕ = bounds_on m rows in
    let at = wanted_at c words goal.retry (open_test c words bounds goal.retry) want (wanted_in (is_in goal m) (wanted_by c words bounds goal.retry) want is) in
    let few : want.test < length c.kinds = found_below (length c.kinds) (open_in goal.retry words bounds) (asked_on c words) want.test (asked_fit c words fit) at.0 in
    (few, subst (MayFollow c rows m want.test) (sym at.1) (follows_by c rows m want.test goal.retry (word_at words want.test) fit mutation is_goal.retry (omega (arith, few, fit.few_tests)) refl at.0))
