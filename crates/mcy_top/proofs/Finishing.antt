-- The read tests of a good book that is finished are what the campaign defines with the pairs that the rows give up.
use Rattle.mcy_top.proofs.Common.{◌≡◌, ◌≢◌, inl, inr, arith, ℕ, zero, suc, ◌+◌, ◌<◌, Bool, true, false, ◌==◌, ◌&&◌, MatchBool, List, [], ◌∷◌, ◌++◌, length, slice_get, Option, None, Some, refl, sym}
use Rattle.mcy_top.proofs.Common.{ap, subst, ◌∙◌, append_assoc, if◌then◌else◌, unwrap_or, option_or, eqb_tells, leb_tells, append-nil, slice_get_past, Entry, Book, Site, Prepared, is_first, word_at}
use Rattle.mcy_top.proofs.Common.{Campaign, Answer, ask, asked_on, is_ended, known_first, known_of, read_answers, word_in, words_of, answers_of, ask_on, groups, groups_from, history, read_on}
use Rattle.mcy_top.proofs.Common.{IsFinished, history_rows, seconds_answers, read_asks, read_next, length-words_of, word_at-words_of, IsPlan, plan_fit, AreRight, IsGivenUpAt, IsRightWord, IsTrueWord}
use Rattle.mcy_top.proofs.Common.{IsTrueWordAt, Command, text_of, Trial, Equality, Simulation, told_verdict, given_up, is_equality, is_given_up, AreAllAnswers, AreAnswers, IsFinalText, IsWordOf, Pair}
use Rattle.tb_turns.specs.declared.verdict.SimVerdict.{SimVerdict}
use Rattle.tb_turns.specs.declared.verdict.SimVerdict.TheVariants as v
use Rattle.mcy_top.proofs.Pairs.{given_last, is_unknown}

-- a word that is given up is UNKNOWN
unknown_word : (c : Prepared) (site : Option Site) (trial : Option Trial) (bound word : ℕ) → IsGivenUpAt c site trial bound word → word ≡ 3
unknown_word c (Some site) (Some Equality) bound word given = given.0
unknown_word c (Some site) (Some (Simulation bench pass fail)) bound word given = absurd given
unknown_word c (Some site) None bound word given = absurd given
unknown_word c None trial bound word given = absurd given

-- another right word is true
known_word : (c : Prepared) (m t bound word : ℕ) → IsRightWord c m t bound word → word ≢ 3 → IsTrueWord c m t word
known_word c m t bound word (inl right) known = right
known_word c m t bound word (inr given) known = absurd (known (unknown_word c (slice_get c.sites m) (slice_get c.trials t) bound word given))

-- a true word is not UNKNOWN
told_known : (verdict : SimVerdict) → told_verdict verdict ≢ 3
told_known v.Pass is = omega (arith, is)
told_known v.Fail is = omega (arith, is)
told_known v.Hang is = omega (arith, is)

true_known : (c : Prepared) (t : ℕ) (site : Option Site) (trial : Option Trial) (word : ℕ) → IsTrueWordAt c t site trial word → word ≢ 3
true_known c t (Some site) (Some Equality) word (inl h) is = let pass : word ≡ 0 = h.0 in omega (arith, pass, is)
true_known c t (Some site) (Some Equality) word (inr h) is = let fail : word ≡ 1 = h.0 in omega (arith, fail, is)
true_known c t (Some site) (Some (Simulation bench pass fail)) word h is = told_known h.said.verdict (sym h.said.word_is ∙ is)
true_known c t (Some site) None word h is = h
true_known c t None trial word h is = h

-- so where the word is UNKNOWN, the test is an equality
equality_of : (c : Prepared) (site : Option Site) (trial : Option Trial) (bound word : ℕ) → IsGivenUpAt c site trial bound word → is_equality trial ≡ true
equality_of c (Some site) (Some Equality) bound word given = refl
equality_of c (Some site) (Some (Simulation bench pass fail)) bound word given = absurd given
equality_of c (Some site) None bound word given = absurd given
equality_of c None trial bound word given = absurd given

pub unknown_equality : (c : Prepared) (m t bound word : ℕ) → IsRightWord c m t bound word → word ≡ 3 → is_equality (slice_get c.trials t) ≡ true
unknown_equality c m t bound word (inl right) is = absurd (true_known c t (slice_get c.sites m) (slice_get c.trials t) word right is)
unknown_equality c m t bound word (inr given) is = equality_of c (slice_get c.sites m) (slice_get c.trials t) bound word given

-- a right word is that of its pair, where this is given up just if the word is UNKNOWN
word_of : (c : Prepared) (pairs : List Pair) (m t bound word : ℕ) → is_given_up pairs m t ≡ (word == 3) → IsRightWord c m t bound word → IsWordOf c pairs m t word
word_of c pairs m t bound word given right = elim (eqb_tells word 3) [
  | inl h ↦ subst (λ (b : Bool). MatchBool b (word ≡ 3) (IsTrueWord c m t word)) (sym (up (is_equality (slice_get c.trials t)) (is_given_up pairs m t) (unknown_equality c m t bound word right h.1) (given ∙ h.0))) h.1
  | inr h ↦ subst (λ (b : Bool). MatchBool b (word ≡ 3) (IsTrueWord c m t word)) (sym (not_up (is_equality (slice_get c.trials t)) (is_given_up pairs m t) (given ∙ h.0))) (known_word c m t bound word right h.1)
]
  where
    up : (a b : Bool) → a ≡ true → b ≡ true → (a && b) ≡ true
    up a b is are = rw (is, are) refl

    not_up : (a b : Bool) → b ≡ false → (a && b) ≡ false
    not_up true b is = is
    not_up false b is = refl

-- The last word of a pair is right, under the bound of its row.

word_right : (c : Prepared) (e : Entry) (m t word : ℕ) → IsRightWord c e.mutation e.test e.bound e.word → e.mutation ≡ m → e.test ≡ t → e.word ≡ word → IsRightWord c m t e.bound word
word_right c e m t word right mutation test is =
    subst (λ (w : ℕ). IsRightWord c m t e.bound w) is (subst (λ (j : ℕ). IsRightWord c m j e.bound e.word) test (subst (λ (k : ℕ). IsRightWord c k e.test e.bound e.word) mutation right))

last_right : (c : Prepared) (rows : List Entry) (m t word : ℕ) → AreRight c rows → word_in (answers_of m rows) t ≡ Some word → (bound : ℕ) × IsRightWord c m t bound word
last_right c [] m t word right is = absurd (let never : None ≡ Some word = is in cc)
last_right c (e ∷ rows) m t word right is = elim (eqb_tells e.mutation m) [
  | inl h ↦ here h.1 (λ later. last_right c rows m t word right.1 later) (word_in (answers_of m rows) t) refl (rw h.0 at is)
  | inr h ↦ last_right c rows m t word right.1 (rw h.0 at is)
]
  where
    first : e.mutation ≡ m → (if e.test == t then Some e.word else None) ≡ Some word → (bound : ℕ) × IsRightWord c m t bound word
    first mutation is = elim (eqb_tells e.test t) [
      | inl k ↦ (let some : Some e.word ≡ Some word = rw k.0 at is in let same : e.word ≡ word = cc in (e.bound, word_right c e m t word right.0 mutation k.1 same))
      | inr k ↦ absurd (let never : None ≡ Some word = rw k.0 at is in cc)
    ]

    here : e.mutation ≡ m → (word_in (answers_of m rows) t ≡ Some word → (bound : ℕ) × IsRightWord c m t bound word)
        → (o : Option ℕ) → word_in (answers_of m rows) t ≡ o → option_or o (if e.test == t then Some e.word else None) ≡ Some word → (bound : ℕ) × IsRightWord c m t bound word
    here mutation later None at is = first mutation is
    here mutation later (Some w) at is = later (at ∙ is)

-- The word of a read test is its last word.

abbrev answered : ℕ → ℕ → Answer
answered test word = record { test = test; word = word }

pub known_word_at : (words : List (Option ℕ)) (tests : List ℕ) (done : List Answer) (a : Answer) (more : List Answer) → known_of words tests ≡ done ++ a ∷ more → word_at words a.test ≡ Some a.word
known_word_at words [] [] a more is = absurd (let never : [] ≡ a ∷ more = is in cc)
known_word_at words [] (x ∷ done) a more is = absurd (let never : [] ≡ x ∷ (done ++ a ∷ more) = is in cc)
known_word_at words (t ∷ tests) done a more is = by (λ before. known_word_at words tests before a more) (word_at words t) refl is
  where
    Here : Type 0
    Here = word_at words a.test ≡ Some a.word

    none : (before : List Answer) → [] ≡ before ++ a ∷ more → Here
    none [] is = absurd (let never : [] ≡ a ∷ more = is in cc)
    none (x ∷ before) is = absurd (let never : [] ≡ x ∷ (before ++ a ∷ more) = is in cc)

    some : (word : ℕ) → word_at words t ≡ Some word → ((before : List Answer) → known_of words tests ≡ before ++ a ∷ more → Here) → (before : List Answer) → answered t word ∷ known_of words tests ≡ before ++ a ∷ more → Here
    some word at later [] is =
        let both : answered t word ∷ known_of words tests ≡ a ∷ more = is in
        let same : answered t word ≡ a = cc in
        subst (λ (x : Answer). word_at words x.test ≡ Some x.word) same at
    some word at later (x ∷ before) is =
        let both : answered t word ∷ known_of words tests ≡ x ∷ (before ++ a ∷ more) = is in
        let rest : known_of words tests ≡ before ++ a ∷ more = cc in
        later before rest

    by : ((before : List Answer) → known_of words tests ≡ before ++ a ∷ more → Here) → (o : Option ℕ) → word_at words t ≡ o → known_first t o (known_of words tests) ≡ done ++ a ∷ more → Here
    by later None at is = none done is
    by later (Some word) at is = some word at later done is

-- a word that is told is a last word
told_word : (answers : List Answer) (t word : ℕ) → word_at (words_of answers) t ≡ Some word → word_in answers t ≡ Some word
told_word answers t word is = elim (leb_tells 16 t) [
  | inl h ↦ absurd (let past : slice_get (words_of answers) t ≡ None = slice_get_past (words_of answers) t (omega (arith, length-words_of answers, h.1)) in
      let never : None ≡ Some word = sym (ap (λ (o : Option (Option ℕ)). unwrap_or o None) past) ∙ is in cc)
  | inr h ↦ sym (word_at-words_of answers t h.1) ∙ is
]

pub read_word : (c : Campaign) (answers done : List Answer) (a : Answer) (more : List Answer) → read_answers c answers ≡ done ++ a ∷ more → word_in answers a.test ≡ Some a.word
read_word c answers done a more is = told_word answers a.test a.word (known_word_at (words_of answers) (asked_on c (words_of answers)) done a more is)

-- The read tests of a mutation are the answers that the campaign defines.

pub read_right : (c : Prepared) (book : Book) (m : ℕ) → AreRight c (history c.campaign book).journal → (done : List Answer) (a : Answer) (more : List Answer) → read_on c.campaign m book.journal ≡ done ++ a ∷ more → IsWordOf c (given_up book.journal) m a.test a.word
read_right c book m right done a more is =
    let word : word_in (answers_of m book.journal) a.test ≡ Some a.word = read_word c.campaign (answers_of m book.journal) done a more is in
    let same : answers_of m (history c.campaign book).journal ≡ answers_of m book.journal = ap (answers_of m) (history_rows c.campaign book) ∙ seconds_answers (is_first book) c.campaign m book.journal in
    let last : (bound : ℕ) × IsRightWord c m a.test bound a.word = last_right c (history c.campaign book).journal m a.test a.word right (ap (λ (l : List Answer). word_in l a.test) same ∙ word) in
    word_of c (given_up book.journal) m a.test last.0 a.word (given_last book.journal m a.test ∙ ap is_unknown word) last.1

answers_are : (c : Prepared) (book : Book) (m : ℕ) → IsPlan c → AreRight c (history c.campaign book).journal → is_ended (ask_on c.campaign m book.journal) ≡ true → (done rest : List Answer) → read_on c.campaign m book.journal ≡ done ++ rest → AreAnswers c (given_up book.journal) m done rest
answers_are c book m plan right ended done [] is =
    let all : read_on c.campaign m book.journal ≡ done = is ∙ append-nil done in
    ap is_ended (ap (ask c.campaign) (sym all) ∙ read_asks c.campaign (answers_of m book.journal) (plan_fit c plan)) ∙ ended
answers_are c book m plan right ended done (a ∷ more) is = (
  read_next c.campaign (answers_of m book.journal) done a more (plan_fit c plan) is,
  read_right c book m right done a more is,
  answers_are c book m plan right ended (done ++ a ∷ []) more (is ∙ sym (append_assoc done (a ∷ []) more)),
)

all_answers : (c : Prepared) (pairs : List Pair) (rows : List Entry) (m n : ℕ) → m + n ≡ length c.campaign.mutations → ((k : ℕ) → k < length c.campaign.mutations → AreAnswers c pairs k [] (read_on c.campaign k rows)) → AreAllAnswers c pairs m (groups_from c.campaign m n rows)
all_answers c pairs rows m zero whole each = let e : m ≡ length c.campaign.mutations = omega (arith, whole) in e
all_answers c pairs rows m (suc n) whole each = (each m (omega (arith, whole)), all_answers c pairs rows (m + 1) n (omega (arith, whole)) each)

-- the answers by mutations are those that the campaign defines
pub groups_are : (c : Prepared) (book : Book) → IsPlan c → AreRight c (history c.campaign book).journal → IsFinished c.campaign book → AreAllAnswers c (given_up book.journal) 0 (groups c.campaign book.journal)
groups_are c book plan right finished =
    all_answers c (given_up book.journal) book.journal 0 (length c.campaign.mutations) (omega arith) (λ k below. answers_are c book k plan right (finished k below) [] (read_on c.campaign k book.journal) refl)

pub final_is : (command : Command) (c : Prepared) (book : Book) → IsPlan c → AreRight c (history c.campaign book).journal → IsFinished c.campaign book → IsFinalText command c (given_up book.journal) (text_of command c book)
final_is command c book plan right finished = record { all = groups c.campaign book.journal; defined = groups_are c book plan right finished; is = refl }
