-- What holds of the script: it asks for no word that is there, for tests of the campaign alone, and whatever the words are that
-- are not there.
use Rattle.result_book.proofs.Common.{◌≡◌, ℕ, zero, suc, ◌<◌, Bool, true, false, List, [], ◌∷◌, length, Option, None, Some, refl, sym, ◌∙◌, subst, arith, if◌then◌else◌, find, is_none, slice_index}
use Rattle.result_book.proofs.Common.{Need, Done, AssertFailed, Unexpected, course_of, AreAmong, End, Outcome, assert_failed, done, first_told, script_outcome, told, unexpected, word_at, script_needs}
use Rattle.result_book.proofs.Common.{told_heard, Campaign, Answer, ask, ask_by, filled, word_in, words_of, IsFit}
use Rattle.tag_script.specs.Fits.{NeedsBelow}
use Rattle.tag_script.specs.Hearing.{ask_told, heard}
use Rattle.result_book.proofs.Words.{word_at-words_of}

filled_at : (words : List (Option ℕ)) (test word : ℕ) → word_at words test ≡ Some word → slice_index (filled words) test ≡ word
filled_at [] test word at = absurd (let none : None ≡ Some word = at in cc)
filled_at (None ∷ words) zero word at = absurd (let none : None ≡ Some word = at in cc)
filled_at (Some w ∷ words) zero word at = (let same : Some w ≡ Some word = at in cc)
filled_at (w ∷ words) (suc test) word at = filled_at words test word at

-- the words that there are are among those that were filled
pub among_filled : (words : List (Option ℕ)) → AreAmong words (filled words)
among_filled words = record { same = filled_at words }

pub ask_heard : (c : Campaign) (words : List (Option ℕ)) → ask_by c words ≡ ask_told (heard c.expect words (course_of c.script))
unfolding ask_by script_outcome
ask_heard c words = told_heard c.expect words (filled words) (course_of c.script) (among_filled words)

-- whatever the other words are
pub ask_is : (c : Campaign) (answers : List Answer) (words : List ℕ) → AreAmong (words_of answers) words → ask c answers ≡ told (words_of answers) (script_outcome c.expect words c.script)
unfolding script_outcome
ask_is c answers words among = ask_heard c (words_of answers) ∙ sym (told_heard c.expect (words_of answers) words (course_of c.script) among)

pub found_by : (found : Option ℕ) (ends : End) (test : ℕ) → first_told found ends ≡ Need test → found ≡ Some test
found_by None (done tags) test is = absurd (let other : Done tags ≡ Need test = is in cc)
found_by None (assert_failed line) test is = absurd (let other : AssertFailed line ≡ Need test = is in cc)
found_by None (unexpected t) test is = absurd (let other : Unexpected t ≡ Need test = is in cc)
found_by (Some t) ends test is = let same : Need t ≡ Need test = is in cc

found_if : (p : ℕ → Bool) (x : ℕ) (rest : Option ℕ) (t : ℕ) (b : Bool) → p x ≡ b → (rest ≡ Some t → p t ≡ true) → (if b then Some x else rest) ≡ Some t → p t ≡ true
found_if p x rest t true holds behind is = let same : Some x ≡ Some t = is in let at : x ≡ t = cc in subst (λ (y : ℕ). p y ≡ true) at holds
found_if p x rest t false holds behind is = behind is

pub found_true : (p : ℕ → Bool) (xs : List ℕ) (t : ℕ) → find p xs ≡ Some t → p t ≡ true
found_true p [] t is = absurd (let none : None ≡ Some t = is in cc)
found_true p (x ∷ xs) t is = found_if p x (find p xs) t (p x) refl (found_true p xs t) is

no_word : (o : Option ℕ) → is_none o ≡ true → o ≡ None
no_word None is = refl
no_word (Some word) is = absurd (let never : false ≡ true = is in cc)

told_need : (words : List (Option ℕ)) (outcome : Outcome) (test : ℕ) → told words outcome ≡ Need test → word_at words test ≡ None
unfolding told
told_need words outcome test is = no_word (word_at words test) (found_true (λ t. is_none (word_at words t)) outcome.asked test (found_by (find (λ t. is_none (word_at words t)) outcome.asked) outcome.ends test is))

pub need_by : (c : Campaign) (words : List (Option ℕ)) (test : ℕ) → ask_by c words ≡ Need test → word_at words test ≡ None
unfolding ask_by
need_by c words test is = told_need words (script_outcome c.expect (filled words) c.script) test is

-- the test that it needs is one of the campaign
pub need_test : (c : Campaign) (answers : List Answer) (test : ℕ) → IsFit c → ask c answers ≡ Need test → test < length c.kinds
need_test c answers test fit is = subst (NeedsBelow (length c.kinds)) (sym (ask_heard c (words_of answers)) ∙ is) (script_needs (length c.kinds) (length c.tags) c.expect (words_of answers) c.script fit.script)

-- and has no word yet
pub need_new : (c : Campaign) (answers : List Answer) (test : ℕ) → IsFit c → ask c answers ≡ Need test → word_in answers test ≡ None
need_new c answers test fit is =
    let below : test < length c.kinds = need_test c answers test fit is in
    sym (word_at-words_of answers test (omega (arith, below, fit.few_tests))) ∙ need_by c (words_of answers) test is
