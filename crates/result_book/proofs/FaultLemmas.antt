-- What a state tells of a row.
use Rattle.result_book.proofs.Common.{◌≡◌, ◌≢◌, arith, ℕ, ◌<◌, Bool, true, false, List, [], ◌∷◌, ◌++◌, slice_get, Option, None, Some, refl, sym, ◌∙◌, ap, set, is_some, Entry, Campaign, Ask, word_at}
use Rattle.result_book.proofs.Common.{Answer, ask, ask_by, word_in, words_of, mark_of, tags_of, IsFit, answer_of, answers_of, ask_on, Mark, Tags, HasNone, HasOne, IsAnswered, IsMarked, IsPlaced}
use Rattle.result_book.proofs.Common.{IsRowFault, IsStateOf, Progress}
use Rattle.result_book.proofs.Words.{word_at-words_of}
use Rattle.result_book.proofs.Grouping.{answers_of-same}
use Rattle.result_book.proofs.Pairs.{new_pair, old_pair}
use Rattle.result_book.proofs.StateLemmas.{results-at, words_next}

pub word_known : (c : Campaign) (rows : List Entry) (s : Progress) (e : Entry) (words : List (Option ℕ)) → IsFit c → IsStateOf c rows s → IsPlaced c rows e → slice_get s.results e.mutation ≡ Some words → word_at words e.test ≡ word_in (answers_of e.mutation rows) e.test
word_known c rows s e words fit state placed at =
    let known : slice_get s.results e.mutation ≡ Some (words_of (answers_of e.mutation rows)) = results-at c rows s e.mutation state placed.mutation in
    let same : words ≡ words_of (answers_of e.mutation rows) = cc in
    ap (λ (w : List (Option ℕ)). word_at w e.test) same ∙ word_at-words_of (answers_of e.mutation rows) e.test (omega (arith, placed.test, fit.few_tests))

-- a test without a word is new
pub new_by_word : (c : Campaign) (rows : List Entry) (s : Progress) (e : Entry) (words : List (Option ℕ)) → IsFit c → IsStateOf c rows s → IsPlaced c rows e → slice_get s.results e.mutation ≡ Some words
    → word_at words e.test ≡ None → HasNone rows e
new_by_word c rows s e words fit state placed at none = new_pair e.mutation e.test rows (sym (word_known c rows s e words fit state placed at) ∙ none)

-- a test with a word is not
pub old_by_word : (c : Campaign) (rows : List Entry) (s : Progress) (e : Entry) (words : List (Option ℕ)) (word : ℕ) → IsFit c → IsStateOf c rows s → IsPlaced c rows e → slice_get s.results e.mutation ≡ Some words
    → word_at words e.test ≡ Some word → HasOne rows e
old_by_word c rows s e words word fit state placed at some = old_pair e.mutation e.test word rows (sym (word_known c rows s e words fit state placed at) ∙ some)

-- the same by whether there is a word
pub new_unless : (c : Campaign) (rows : List Entry) (s : Progress) (e : Entry) (words : List (Option ℕ)) (word : Option ℕ) → IsFit c → IsStateOf c rows s → IsPlaced c rows e → slice_get s.results e.mutation ≡ Some words
    → word ≡ word_at words e.test → false ≡ is_some word → HasNone rows e
new_unless c rows s e words None fit state placed at is lacks = new_by_word c rows s e words fit state placed at (sym is)
new_unless c rows s e words (Some word) fit state placed at is lacks = absurd (let never : false ≡ true = lacks in cc)

pub old_where : (c : Campaign) (rows : List Entry) (s : Progress) (e : Entry) (words : List (Option ℕ)) (word : Option ℕ) → IsFit c → IsStateOf c rows s → IsPlaced c rows e → slice_get s.results e.mutation ≡ Some words
    → word ≡ word_at words e.test → true ≡ is_some word → HasOne rows e
old_where c rows s e words None fit state placed at is has = absurd (let never : true ≡ false = has in cc)
old_where c rows s e words (Some word) fit state placed at is has = old_by_word c rows s e words word fit state placed at (sym is)

-- how the script stands after a row does not depend on the row's number, mark, tags and bound
pub ask_on-same : (c : Campaign) (rows : List Entry) (e f : Entry) → f.mutation ≡ e.mutation → f.test ≡ e.test → f.word ≡ e.word → ask_on c f.mutation (rows ++ f ∷ []) ≡ ask_on c e.mutation (rows ++ e ∷ [])
ask_on-same c rows e f mutation test word =
    let answer : answer_of f ≡ answer_of e = cc in
    ap (λ (m : ℕ). ask_on c m (rows ++ f ∷ [])) mutation ∙ ap (ask c) (answers_of-same e.mutation rows f mutation) ∙ ap (λ (a : Answer). ask c (answers_of e.mutation rows ++ a ∷ [])) answer ∙ sym (ap (ask c) (answers_of-same e.mutation rows e refl))

-- how it stands with the row's word is how it stands after the row
pub ask_after : (c : Campaign) (rows : List Entry) (e : Entry) → e.test < 16 → ask_by c (set (words_of (answers_of e.mutation rows)) e.test (Some e.word)) ≡ ask_on c e.mutation (rows ++ e ∷ [])
ask_after c rows e inside = ap (ask_by c) (words_next rows e inside)

pub stands_after : (c : Campaign) (rows : List Entry) (e : Entry) (stands : Ask) → IsFit c → IsPlaced c rows e → stands ≡ ask_by c (set (words_of (answers_of e.mutation rows)) e.test (Some e.word)) → stands ≡ ask_on c e.mutation (rows ++ e ∷ [])
stands_after c rows e stands fit placed is = is ∙ ask_after c rows e (omega (arith, placed.test, fit.few_tests))

-- so its mark and tags are told
pub mark_fault : (first : Bool) (c : Campaign) (rows : List Entry) (e : Entry) (stands : Ask) (tested told : ℕ) → IsAnswered first c rows e → stands ≡ ask_on c e.mutation (rows ++ e ∷ []) → tested ≡ mark_of stands → told ≡ mark_of stands → e.mark ≢ tested
    → IsRowFault first c rows e (Mark told)
mark_fault first c rows e stands tested told answered stands_is tested_is told_is other = (answered, told_is ∙ ap mark_of stands_is, λ same. other (same ∙ told_is ∙ sym tested_is))

pub tags_fault : (first : Bool) (c : Campaign) (rows : List Entry) (e : Entry) (stands : Ask) (mark tested told : ℕ) → IsAnswered first c rows e → stands ≡ ask_on c e.mutation (rows ++ e ∷ []) → mark ≡ mark_of stands → e.mark ≡ mark → tested ≡ tags_of stands → told ≡ tags_of stands
    → e.tags ≢ tested → IsRowFault first c rows e (Tags told)
tags_fault first c rows e stands mark tested told answered stands_is mark_is same_mark tested_is told_is other =
    (answered, same_mark ∙ mark_is ∙ ap mark_of stands_is, told_is ∙ ap tags_of stands_is, λ same. other (same ∙ told_is ∙ sym tested_is))

pub is_marked : (first : Bool) (c : Campaign) (rows : List Entry) (e : Entry) (stands : Ask) (mark tags : ℕ) → IsAnswered first c rows e → stands ≡ ask_on c e.mutation (rows ++ e ∷ []) → mark ≡ mark_of stands → e.mark ≡ mark → tags ≡ tags_of stands → e.tags ≡ tags
    → IsMarked first c rows e
is_marked first c rows e stands mark tags answered stands_is mark_is same_mark tags_are same_tags = record {
  answered = answered;
  mark = same_mark ∙ mark_is ∙ ap mark_of stands_is;
  tags = same_tags ∙ tags_are ∙ ap tags_of stands_is;
}
