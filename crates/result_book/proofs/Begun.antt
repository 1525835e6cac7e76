-- Read tests that were found so far.
use Rattle.result_book.proofs.Common.{◌≡◌, inl, inr, arith, ℕ, ◌<◌, Bool, true, false, ◌==◌, List, [], ◌∷◌, ◌++◌, length, cond, count_by, get_or, set, slice_get, Option, None, Some, refl, sym, ◌∙◌}
use Rattle.result_book.proofs.Common.{ap, subst, append_assoc, if◌then◌else◌, is_none, option_or, eqb_tells, append-nil, sum_by-set, same_Some, unwrap_or-slice_get, Entry, Need, word_at, Campaign}
use Rattle.result_book.proofs.Common.{IsFit, next_read, AreRows, AreRowsIn, answers_of, Answer, ask, asked_on, read_answers, word_in, words_of, IsStateOf, Progress}
use Rattle.result_book.proofs.Asking.{need_by, need_test}
use Rattle.result_book.proofs.Following.{word_inside}
use Rattle.result_book.proofs.Known.{AreOf, known_are, rest_are}
use Rattle.result_book.proofs.Reading.{read_end, read_more, read_next}
use Rattle.result_book.proofs.StateLemmas.{results-at}
use Rattle.result_book.proofs.Words.{length-words_of, word_at-words_of, words_of-more}

-- these are the first of the read tests
pub record AreBegun (c : Campaign) (answers done : List Answer) : Type 0 where
  pub rest : List Answer
  pub parts : read_answers c answers ≡ done ++ rest

pub begun_none : (c : Campaign) (answers : List Answer) → AreBegun c answers []
begun_none c answers = record { rest = read_answers c answers; parts = refl }

-- the next one is the next that is read
next_of : (c : Campaign) (answers done : List Answer) (a : Answer) → IsFit c → (rest : List Answer) → read_answers c answers ≡ done ++ rest → next_read c (words_of answers) (words_of done) ≡ Some a → (more : List Answer) × (read_answers c answers ≡ done ++ a ∷ more)
next_of c answers done a fit [] parts is =
    let all : read_answers c answers ≡ done = parts ∙ append-nil done in
    absurd (let never : None ≡ Some a = sym (ap (λ (l : List Answer). next_read c (words_of answers) (words_of l)) (sym all) ∙ read_end c answers fit) ∙ is in cc)
next_of c answers done a fit (b ∷ more) parts is =
    let both : Some b ≡ Some a = sym (read_more c answers done b more fit parts) ∙ is in
    let same : b ≡ a = cc in
    (more, parts ∙ ap (λ (x : Answer). done ++ x ∷ more) same)

pub begun_parts : (c : Campaign) (answers done : List Answer) (a : Answer) → IsFit c → AreBegun c answers done → next_read c (words_of answers) (words_of done) ≡ Some a → (more : List Answer) × (read_answers c answers ≡ done ++ a ∷ more)
begun_parts c answers done a fit begun is = next_of c answers done a fit begun.rest begun.parts is

pub begun_more : (c : Campaign) (answers done : List Answer) (a : Answer) → IsFit c → AreBegun c answers done → next_read c (words_of answers) (words_of done) ≡ Some a → AreBegun c answers (done ++ a ∷ [])
begun_more c answers done a fit begun is =
    let next = begun_parts c answers done a fit begun is in
    record { rest = next.0; parts = next.1 ∙ sym (append_assoc done (a ∷ []) next.0) }

-- and where there is none these are all
all_of : (c : Campaign) (answers done : List Answer) → IsFit c → (rest : List Answer) → read_answers c answers ≡ done ++ rest → next_read c (words_of answers) (words_of done) ≡ None → done ≡ read_answers c answers
all_of c answers done fit [] parts is = sym (parts ∙ append-nil done)
all_of c answers done fit (b ∷ more) parts is = absurd (let never : Some b ≡ None = sym (read_more c answers done b more fit parts) ∙ is in cc)

pub begun_all : (c : Campaign) (answers done : List Answer) → IsFit c → AreBegun c answers done → next_read c (words_of answers) (words_of done) ≡ None → done ≡ read_answers c answers
begun_all c answers done fit begun is = all_of c answers done fit begun.rest begun.parts is

-- its test is one of the campaign, and had no word
pub next_inside : (c : Campaign) (answers done : List Answer) (a : Answer) → IsFit c → AreBegun c answers done → next_read c (words_of answers) (words_of done) ≡ Some a → (a.test < 16) × (word_at (words_of done) a.test ≡ None)
next_inside c answers done a fit begun is =
    let next = begun_parts c answers done a fit begun is in
    let needs : ask c done ≡ Need a.test = read_next c answers done a next.0 fit next.1 in
    (omega (arith, need_test c done a.test fit needs, fit.few_tests), need_by c (words_of done) a.test needs)

few_or : (o : Option ℕ) (b : Bool) (word w : ℕ) → word < 4 → (o ≡ Some w → w < 4) → option_or o (if b then Some word else None) ≡ Some w → w < 4
few_or (Some v) b word w few behind at = behind at
few_or None true word w few behind at = (let e : Some word ≡ Some w = at in let same : word ≡ w = cc in omega (arith, few, same))
few_or None false word w few behind at = absurd (let never : None ≡ Some w = at in cc)

-- the words in rows in form are codes of words
words_few : (first : Bool) (c : Campaign) (earlier rows : List Entry) → AreRowsIn first c earlier rows → (m t w : ℕ) → word_in (answers_of m rows) t ≡ Some w → w < 4
words_few first c earlier [] all m t w at = absurd (let never : None ≡ Some w = at in cc)
words_few first c earlier (e ∷ rows) all m t w at = elim (eqb_tells e.mutation m) [
  | inl h ↦ few_or (word_in (answers_of m rows) t) (e.test == t) e.word w (word_inside c e.test e.word all.0.word).1 (words_few first c (earlier ++ e ∷ []) rows all.1 m t w) (rw h.0 at at)
  | inr h ↦ words_few first c (earlier ++ e ∷ []) rows all.1 m t w (rw h.0 at at)
]

pub next_word : (c : Campaign) (rows : List Entry) (m : ℕ) (done : List Answer) (a : Answer) → IsFit c → AreRows c [] rows → AreBegun c (answers_of m rows) done → next_read c (words_of (answers_of m rows)) (words_of done) ≡ Some a → a.word < 4
next_word c rows m done a fit form begun is =
    let answers : List Answer = answers_of m rows in
    let next = begun_parts c answers done a fit begun is in
    let last : List (Option ℕ) = words_of answers in
    let all : AreOf last (a ∷ next.0) = rest_are last done (a ∷ next.0) (subst (AreOf last) next.1 (known_are last (asked_on c last))) in
    let inside = next_inside c answers done a fit begun is in
    words_few false c [] rows form m a.test a.word (sym (word_at-words_of answers a.test inside.0) ∙ all.0)

-- what is read next after those that were seen, by what a state knows
pub next_known : (c : Campaign) (rows : List Entry) (s : Progress) (m : ℕ) (last seen : List (Option ℕ)) (done : List Answer) (next : Option Answer) → IsStateOf c rows s → m < length c.mutations → slice_get s.results m ≡ Some last → seen ≡ words_of done → next ≡ next_read c last seen → next_read c (words_of (answers_of m rows)) (words_of done) ≡ next
next_known c rows s m last seen done next state inside at seen_are is =
    let known : last ≡ words_of (answers_of m rows) = same_Some _ _ (sym at ∙ results-at c rows s m state inside) in
    ap (λ (l : List (Option ℕ)). next_read c l (words_of done)) (sym known) ∙ ap (next_read c last) (sym seen_are) ∙ sym is

-- the words with one more
pub next_words : (c : Campaign) (answers done : List Answer) (a : Answer) (seen new : List (Option ℕ)) → IsFit c → AreBegun c answers done → next_read c (words_of answers) (words_of done) ≡ Some a → seen ≡ words_of done → new ≡ set seen a.test (Some a.word) → new ≡ words_of (done ++ a ∷ [])
next_words c answers done a seen new fit begun is seen_are new_are =
    new_are ∙ ap (λ (l : List (Option ℕ)). set l a.test (Some a.word)) seen_are ∙ sym (words_of-more done a (next_inside c answers done a fit begun is).0)

-- of which fewer are missing
abbrev one_missing : Option ℕ → ℕ
one_missing o = cond (is_none o) 1 0

fewer_missing : (seen : List (Option ℕ)) (t word : ℕ) → t < length seen → word_at seen t ≡ None → count_by is_none (set seen t (Some word)) < count_by is_none seen
fewer_missing seen t word inside none =
    let was : get_or seen t None ≡ None = sym (unwrap_or-slice_get seen t None) ∙ none in
    let before : one_missing (get_or seen t None) ≡ 1 = ap one_missing was in
    let after : one_missing (Some word) ≡ 0 = refl in
    let sums = sum_by-set one_missing seen t (Some word) None inside in
    omega (arith, before, after, sums)

pub next_fewer : (c : Campaign) (answers done : List Answer) (a : Answer) (seen new : List (Option ℕ)) → IsFit c → AreBegun c answers done → next_read c (words_of answers) (words_of done) ≡ Some a → seen ≡ words_of done → new ≡ set seen a.test (Some a.word) → count_by is_none new < count_by is_none seen
next_fewer c answers done a seen new fit begun is seen_are new_are =
    let inside = next_inside c answers done a fit begun is in
    let long : length seen ≡ 16 = ap length seen_are ∙ length-words_of done in
    let less : count_by is_none (set seen a.test (Some a.word)) < count_by is_none seen = fewer_missing seen a.test a.word (omega (arith, inside.0, long)) (ap (λ (l : List (Option ℕ)). word_at l a.test) seen_are ∙ inside.1) in
    subst (λ (l : List (Option ℕ)). count_by is_none l < count_by is_none seen) (sym new_are) less
