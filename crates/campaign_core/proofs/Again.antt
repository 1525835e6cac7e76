-- What a run wants of a pair that has rows.
use Rattle.campaign_core.proofs.Common.{◌≡◌, ℕ, ◌<◌, Bool, true, false, cond, List, Option, None, Some, refl, sym, ◌∙◌, ap, subst, IsSomeAnd, option_map, slice_index, unwrap_or, Any, Entry, Campaign}
use Rattle.campaign_core.proofs.Common.{Goal, Want, is_in, is_open, next_bound, open_test, want_of, wanted, wanted_by, IsGivenUp, IsPair, answers_of, bound_in, bounds_on, asked_on, word_in, words_of}
use Rattle.campaign_core.proofs.Common.{bound_some, new_pair, not_both, word_at-words_of}
use Rattle.tag_script.specs.Outcomes.{word_at}
use Rattle.result_book.proofs.Standing.{bounds_on-at, given_up_parts}
use Rattle.result_book.proofs.Asking.{found_true}

-- what is wanted of a mutation: the test is open, and has its next bound
pub record IsOpened (c : Campaign) (rows : List Entry) (m : ℕ) (goal : Goal) (want : Want) : Type 0 where
  pub opened : is_open goal.retry (word_at (words_of (answers_of m rows)) want.test) (slice_index (bounds_on m rows) want.test) ≡ true
  pub bound : want.bound ≡ next_bound c goal.retry want.test (word_at (words_of (answers_of m rows)) want.test)

pub wanted_opened : (c : Campaign) (rows : List Entry) (m : ℕ) (goal : Goal) (want : Want) → wanted c rows m goal ≡ Some want → IsOpened c rows m goal want
wanted_opened c rows m goal want is = over (is_in goal m) is
  where
    same : (a b : Want) → Some a ≡ Some b → a ≡ b
    same a b e = cc

    by : (o : Option ℕ) → open_test c (words_of (answers_of m rows)) (bounds_on m rows) goal.retry ≡ o → option_map (want_of c (words_of (answers_of m rows)) goal.retry) o ≡ Some want → IsOpened c rows m goal want
    by None at e = absurd (let never : None ≡ Some want = e in cc)
    by (Some t) at e =
        subst (λ (w : Want). IsOpened c rows m goal w) (same (want_of c (words_of (answers_of m rows)) goal.retry t) want e)
        (record {
          opened = found_true (λ test. is_open goal.retry (word_at (words_of (answers_of m rows)) test) (slice_index (bounds_on m rows) test)) (asked_on c (words_of (answers_of m rows))) t at;
          bound = refl;
        })

    over : (b : Bool) → cond b (wanted_by c (words_of (answers_of m rows)) (bounds_on m rows) goal.retry) None ≡ Some want → IsOpened c rows m goal want
    over true e = by (open_test c (words_of (answers_of m rows)) (bounds_on m rows) goal.retry) refl e
    over false e = absurd (let never : None ≡ Some want = e in cc)

-- ---- a pair that has a row

-- it was given up under a bound below the limit, where its test is open
again_by : (rows : List Entry) (m t limit : ℕ) (word bound : Option ℕ) → word_in (answers_of m rows) t ≡ word → bound_in m t rows ≡ bound → is_open limit word (unwrap_or bound 0) ≡ true → Any (IsPair m t) rows → IsGivenUp rows m t limit
again_by rows m t limit None bound no_word at is some = absurd (not_both m t rows (new_pair m t rows no_word) some)
again_by rows m t limit (Some w) None word no_bound is some = absurd (bound_some m t w rows word no_bound)
again_by rows m t limit (Some w) (Some before) word bound is some =
    let parts = given_up_parts limit w before is in
    record {
      word = word ∙ ap (λ (n : ℕ). Some n) parts.0;
      below = subst (λ (o : Option ℕ). IsSomeAnd o (λ b. b < limit)) (sym bound) parts.1;
    }

pub wanted_again : (c : Campaign) (rows : List Entry) (m : ℕ) (goal : Goal) (want : Want) → wanted c rows m goal ≡ Some want → want.test < 16 → Any (IsPair m want.test) rows → IsGivenUp rows m want.test goal.retry
wanted_again c rows m goal want is inside some =
    let opened = wanted_opened c rows m goal want is in
    again_by rows m want.test goal.retry (word_in (answers_of m rows) want.test) (bound_in m want.test rows) refl refl
    (subst (λ (o : Option ℕ). is_open goal.retry o (unwrap_or (bound_in m want.test rows) 0) ≡ true) (word_at-words_of (answers_of m rows) want.test inside)
    (subst (λ (n : ℕ). is_open goal.retry (word_at (words_of (answers_of m rows)) want.test) n ≡ true) (bounds_on-at m want.test rows inside) opened.opened))
    some

-- an open test as its rows tell
pub wanted_by_rows : (c : Campaign) (rows : List Entry) (m : ℕ) (goal : Goal) (want : Want) → wanted c rows m goal ≡ Some want → want.test < 16
    → (is_open goal.retry (word_in (answers_of m rows) want.test) (unwrap_or (bound_in m want.test rows) 0) ≡ true) × (want.bound ≡ next_bound c goal.retry want.test (word_in (answers_of m rows) want.test))
wanted_by_rows c rows m goal want is inside =
    let opened = wanted_opened c rows m goal want is in
    let word = word_at-words_of (answers_of m rows) want.test inside in (
      subst (λ (o : Option ℕ). is_open goal.retry o (unwrap_or (bound_in m want.test rows) 0) ≡ true) word
          (subst (λ (n : ℕ). is_open goal.retry (word_at (words_of (answers_of m rows)) want.test) n ≡ true) (bounds_on-at m want.test rows inside) opened.opened),
      opened.bound ∙ ap (next_bound c goal.retry want.test) word,
    )

-- a pair without a word has no bound, and one with a word has one
pub bound_of_word : (m t w : ℕ) (rows : List Entry) → word_in (answers_of m rows) t ≡ Some w → (before : ℕ) × (bound_in m t rows ≡ Some before)
bound_of_word m t w rows word = go (bound_in m t rows) refl
  where
    go : (o : Option ℕ) → bound_in m t rows ≡ o → (before : ℕ) × (bound_in m t rows ≡ Some before)
    go None none = absurd (bound_some m t w rows word none)
    go (Some before) is = (before, is)
