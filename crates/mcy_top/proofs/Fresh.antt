-- Where no test is asked again, the read tests of a mutation are those of its rows, and the tests of all mutations are as many as the rows.
use Rattle.mcy_top.proofs.Common.{◌≡◌, ◌≢◌, inl, inr, arith, ℕ, zero, suc, ◌+◌, ◌<◌, ◌≤◌, ◌==◌, Bool, true, false, List, [], ◌∷◌, ◌++◌, length, Option, None, Some, refl, sym, ap, subst, ◌∙◌}
use Rattle.mcy_top.proofs.Common.{append_assoc, if◌then◌else◌, is_some, slice_index, ⊤, option_or, eqb_tells, append-nil, Entry, Need, word_at, Answer, Campaign, Goal, Want, first_bound, IsFit, is_in}
use Rattle.mcy_top.proofs.Common.{is_open, next_bound, open_test, wanted, wanted_by, answer_of, answers_of, bounds_on, groups, read_on, AreRows, IsNew, MayFollow, ask, asked_on, each_from}
use Rattle.mcy_top.proofs.Common.{read_answers, word_in, words_of, read_asks, read_next, word_at-words_of, word_in-same, Prepared, AreWanted, tests_in, wanted_in, wanted_at}
use Rattle.result_book.proofs.Asking.{found_true, need_by}
use Rattle.result_book.proofs.Grouping.{answers_of-other, answers_of-same}
use Rattle.result_book.proofs.Standing.{given_up_parts}
use Rattle.mcy_top.proofs.Finishing.{known_word_at, read_word}

-- Answers, each of the test that the script asks for on those before it.
abbrev pub AreFresh : Campaign → (earlier answers : List Answer) → Type 0
AreFresh c earlier [] = ⊤
AreFresh c earlier (a ∷ more) = (a.test < 16) × (ask c earlier ≡ Need a.test) × AreFresh c (earlier ++ a ∷ []) more

-- a test that is asked for has no word yet
none_before : (c : Campaign) (earlier : List Answer) (t : ℕ) → t < 16 → ask c earlier ≡ Need t → word_in earlier t ≡ None
none_before c earlier t below asked = sym (word_at-words_of earlier t below) ∙ need_by c (words_of earlier) t asked

or_none : (o : Option ℕ) → o ≡ option_or o None
or_none None = refl
or_none (Some word) = refl

or_assoc : (a b d : Option ℕ) → option_or (option_or a b) d ≡ option_or a (option_or b d)
or_assoc None b d = refl
or_assoc (Some word) b d = refl

word_in_both : (answers more : List Answer) (t : ℕ) → word_in (answers ++ more) t ≡ option_or (word_in more t) (word_in answers t)
word_in_both [] more t = or_none (word_in more t)
word_in_both (a ∷ answers) more t =
    ap (λ (o : Option ℕ). option_or o (if a.test == t then Some a.word else None)) (word_in_both answers more t) ∙ or_assoc (word_in more t) (word_in answers t) (if a.test == t then Some a.word else None)

keeps_some : (o p : Option ℕ) → is_some p ≡ true → is_some (option_or o p) ≡ true
keeps_some None p some = some
keeps_some (Some word) p some = refl

some_more : (earlier : List Answer) (a : Answer) (t : ℕ) → is_some (word_in earlier t) ≡ true → is_some (word_in (earlier ++ a ∷ []) t) ≡ true
some_more earlier a t some = ap (λ (o : Option ℕ). is_some o) (word_in_both earlier (a ∷ []) t) ∙ keeps_some (word_in (a ∷ []) t) (word_in earlier t) some

-- and so a test that has a word is not asked for again
none_later : (c : Campaign) (t : ℕ) (earlier answers : List Answer) → is_some (word_in earlier t) ≡ true → AreFresh c earlier answers → word_in answers t ≡ None
none_later c t earlier [] some fresh = refl
none_later c t earlier (a ∷ more) some fresh = elim (eqb_tells a.test t) [
  | inl h ↦ absurd (let none : word_in earlier t ≡ None = ap (word_in earlier) (sym h.1) ∙ none_before c earlier a.test fresh.0 fresh.1 in
      let never : true ≡ false = sym some ∙ ap (λ (o : Option ℕ). is_some o) none in cc)
  | inr h ↦ behind (a.test == t) h.0 (word_in more t) (none_later c t (earlier ++ a ∷ []) more (some_more earlier a t some) fresh.2)
]
  where
    behind : (b : Bool) → b ≡ false → (o : Option ℕ) → o ≡ None → option_or o (if b then Some a.word else None) ≡ None
    behind true is o none = absurd (let never : true ≡ false = is in cc)
    behind false is o none = ap (λ (p : Option ℕ). option_or p None) none

-- the word of an answer is the word of its test among all
fresh_word : (c : Campaign) (earlier : List Answer) (a : Answer) (more : List Answer) → AreFresh c earlier (a ∷ more) → word_in (earlier ++ a ∷ more) a.test ≡ Some a.word
fresh_word c earlier a more fresh =
    let last : is_some (word_in (earlier ++ a ∷ []) a.test) ≡ true = ap (λ (o : Option ℕ). is_some o) (word_in-same earlier a a.test refl) in
    let none : word_in more a.test ≡ None = none_later c a.test (earlier ++ a ∷ []) more last fresh.2 in
    ap (λ (l : List Answer). word_in l a.test) (sym (append_assoc earlier (a ∷ []) more))
    ∙ word_in_both (earlier ++ a ∷ []) more a.test
    ∙ ap (λ (o : Option ℕ). option_or o (word_in (earlier ++ a ∷ []) a.test)) none
    ∙ word_in-same earlier a a.test refl

-- the read tests are all of them
go : (c : Campaign) (all : List Answer) → IsFit c → (done read rest : List Answer) → read_answers c all ≡ done ++ read → all ≡ done ++ rest → AreFresh c done rest → read ≡ rest
go c all fit done [] [] is are fresh = refl
go c all fit done [] (b ∷ rest) is are fresh =
    let stands : ask c all ≡ Need b.test = sym (read_asks c all fit) ∙ ap (ask c) (is ∙ append-nil done) ∙ fresh.1 in
    let none : word_in all b.test ≡ None = none_before c all b.test fresh.0 stands in
    let some : word_in all b.test ≡ Some b.word = ap (λ (l : List Answer). word_in l b.test) are ∙ fresh_word c done b rest fresh in
    absurd (let never : None ≡ Some b.word = sym none ∙ some in cc)
go c all fit done (a ∷ read) [] is are fresh =
    let stands : ask c all ≡ Need a.test = ap (ask c) (are ∙ append-nil done) ∙ read_next c all done a read fit is in
    let none : word_at (words_of all) a.test ≡ None = need_by c (words_of all) a.test stands in
    let some : word_at (words_of all) a.test ≡ Some a.word = known_word_at (words_of all) (asked_on c (words_of all)) done a read is in
    absurd (let never : None ≡ Some a.word = sym none ∙ some in cc)
go c all fit done (a ∷ read) (b ∷ rest) is are fresh =
    let tests : Need a.test ≡ Need b.test = sym (read_next c all done a read fit is) ∙ fresh.1 in
    let test : a.test ≡ b.test = cc in
    let mine : word_in all a.test ≡ Some a.word = read_word c all done a read is in
    let its : word_in all b.test ≡ Some b.word = ap (λ (l : List Answer). word_in l b.test) are ∙ fresh_word c done b rest fresh in
    let words : Some a.word ≡ Some b.word = sym mine ∙ ap (word_in all) test ∙ its in
    let word : a.word ≡ b.word = cc in
    let first : a ≡ b = λ i. record { test = test i; word = word i } in
    let more : read ≡ rest = go c all fit (done ++ a ∷ []) read rest (is ∙ sym (append_assoc done (a ∷ []) read)) (are ∙ ap (λ (x : Answer). done ++ x ∷ rest) (sym first) ∙ sym (append_assoc done (a ∷ []) rest))
    (subst (λ (x : Answer). AreFresh c (done ++ x ∷ []) rest) (sym first) fresh.2) in
    cc

read_fresh : (c : Campaign) (answers : List Answer) → IsFit c → AreFresh c [] answers → read_answers c answers ≡ answers
read_fresh c answers fit fresh = go c answers fit [] (read_answers c answers) answers refl refl fresh

-- Rows, each of a pair that is new, under the bound of the campaign.
abbrev pub AreNew : Campaign → (earlier rows : List Entry) → Type 0
AreNew c earlier [] = ⊤
AreNew c earlier (e ∷ more) = (e.test < 16) × IsNew c earlier e.mutation e.test × (e.bound ≡ first_bound c e.test) × AreNew c (earlier ++ e ∷ []) more

open_none : (limit bound : ℕ) (o : Option ℕ) → limit ≡ 0 → is_open limit o bound ≡ true → o ≡ None
open_none limit bound None zero_is is = refl
open_none limit bound (Some word) zero_is is = absurd (let parts = given_up_parts limit word bound is in omega (arith, zero_is, parts.1))

-- what is wanted without a retry has no word, and is asked under the campaign's bound
pub wanted_first : (c : Campaign) (rows : List Entry) (m : ℕ) (goal : Goal) (want : Want) → goal.retry ≡ 0 → wanted c rows m goal ≡ Some want → (word_at (words_of (answers_of m rows)) want.test ≡ None) × (want.bound ≡ first_bound c want.test)
wanted_first c rows m goal want never is =
    let words : List (Option ℕ) = words_of (answers_of m rows) in
    let bounds : List ℕ = bounds_on m rows in
    let at = wanted_at c words goal.retry (open_test c words bounds goal.retry) want (wanted_in (is_in goal m) (wanted_by c words bounds goal.retry) want is) in
    let now : is_open goal.retry (word_at words want.test) (slice_index bounds want.test) ≡ true = found_true (λ t. is_open goal.retry (word_at words t) (slice_index bounds t)) (asked_on c words) want.test at.0 in
    let none : word_at words want.test ≡ None = open_none goal.retry (slice_index bounds want.test) (word_at words want.test) never now in
    (none, at.1 ∙ ap (next_bound c goal.retry want.test) none)

-- it is of a new pair
pub new_of : (c : Campaign) (rows : List Entry) (m t bound : ℕ) → t < 16 → word_at (words_of (answers_of m rows)) t ≡ None → MayFollow c rows m t bound → IsNew c rows m t
new_of c rows m t bound below none (inl new) = new.0
new_of c rows m t bound below none (inr again) =
    absurd (let never : None ≡ Some 3 = sym none ∙ word_at-words_of (answers_of m rows) t below ∙ again.given_up.word in cc)

pub new_rows : (c : Prepared) (goal : Goal) (earlier rows : List Entry) → goal.retry ≡ 0 → IsFit c.campaign → AreRows c.campaign earlier rows → AreWanted c goal earlier rows → AreNew c.campaign earlier rows
new_rows c goal earlier [] never fit form asked = tt
new_rows c goal earlier (e ∷ rows) never fit form asked =
    let first = wanted_first c.campaign earlier e.mutation goal (record { test = e.test; bound = e.bound }) never asked.0 in
    let below : e.test < 16 = omega (arith, form.0.test, fit.few_tests) in
    (below, new_of c.campaign earlier e.mutation e.test e.bound below first.0 form.0.follows, first.1, new_rows c goal (earlier ++ e ∷ []) rows never fit form.1 asked.1)

fresh_of : (c : Campaign) (m : ℕ) (earlier rows : List Entry) → AreNew c earlier rows → AreFresh c (answers_of m earlier) (answers_of m rows)
fresh_of c m earlier [] new = tt
fresh_of c m earlier (e ∷ rows) new = elim (eqb_tells e.mutation m) [
  | inl h ↦ here (e.mutation == m) h.0 (
    new.0,
    subst (λ (k : ℕ). ask c (answers_of k earlier) ≡ Need e.test) h.1 new.1.asked,
    subst (λ (l : List Answer). AreFresh c l (answers_of m rows)) (answers_of-same m earlier e h.1) (fresh_of c m (earlier ++ e ∷ []) rows new.3),
  )
  | inr h ↦ there (e.mutation == m) h.0 (subst (λ (l : List Answer). AreFresh c l (answers_of m rows)) (answers_of-other m earlier e h.1) (fresh_of c m (earlier ++ e ∷ []) rows new.3))
]
  where
    here : (b : Bool) → b ≡ true → AreFresh c (answers_of m earlier) (answer_of e ∷ answers_of m rows) → AreFresh c (answers_of m earlier) (if b then answer_of e ∷ answers_of m rows else answers_of m rows)
    here true is fresh = fresh
    here false is fresh = absurd (let never : false ≡ true = is in cc)

    there : (b : Bool) → b ≡ false → AreFresh c (answers_of m earlier) (answers_of m rows) → AreFresh c (answers_of m earlier) (if b then answer_of e ∷ answers_of m rows else answers_of m rows)
    there true is fresh = absurd (let never : true ≡ false = is in cc)
    there false is fresh = fresh

-- How many they are.

same_tests : (f g : ℕ → List Answer) → ((k : ℕ) → f k ≡ g k) → (m n : ℕ) → tests_in (each_from f m n) ≡ tests_in (each_from g m n)
same_tests f g same m zero = refl
same_tests f g same m (suc n) = let rest = same_tests f g same (m + 1) n in omega (arith, ap length (same m), rest)

none_in : (m n : ℕ) → tests_in (each_from (λ k. answers_of k []) m n) ≡ 0
none_in m zero = refl
none_in m (suc n) = omega (arith, none_in (m + 1) n)

length_here : (e : Entry) (rows : List Entry) (m : ℕ) → e.mutation ≡ m → length (answers_of m (e ∷ rows)) ≡ suc (length (answers_of m rows))
length_here e rows m same = elim (eqb_tells e.mutation m) [ inl h ↦ rw h.0 refl | inr h ↦ absurd (h.1 same) ]

length_there : (e : Entry) (rows : List Entry) (m : ℕ) → e.mutation ≢ m → length (answers_of m (e ∷ rows)) ≡ length (answers_of m rows)
length_there e rows m other = elim (eqb_tells e.mutation m) [ inl h ↦ absurd (other h.1) | inr h ↦ rw h.0 refl ]

other_in : (e : Entry) (rows : List Entry) (m n : ℕ) → e.mutation < m → tests_in (each_from (λ k. answers_of k (e ∷ rows)) m n) ≡ tests_in (each_from (λ k. answers_of k rows) m n)
other_in e rows m zero below = refl
other_in e rows m (suc n) below = omega (arith, length_there e rows m (λ same. omega (arith, same, below)), other_in e rows (m + 1) n (omega (arith, below)))

one_in : (e : Entry) (rows : List Entry) (m n : ℕ) → m ≤ e.mutation → e.mutation < m + n → tests_in (each_from (λ k. answers_of k (e ∷ rows)) m n) ≡ suc (tests_in (each_from (λ k. answers_of k rows) m n))
one_in e rows m zero low high = absurd (omega (arith, low, high))
one_in e rows m (suc n) low high = elim (eqb_tells e.mutation m) [
  | inl h ↦ omega (arith, length_here e rows m h.1, other_in e rows (m + 1) n (omega (arith, h.1)))
  | inr h ↦ omega (arith, length_there e rows m h.1, one_in e rows (m + 1) n (omega (arith, low, h.1)) (omega (arith, high)))
]

count_rows : (c : Campaign) (earlier rows : List Entry) → AreRows c earlier rows → tests_in (each_from (λ k. answers_of k rows) 0 (length c.mutations)) ≡ length rows
count_rows c earlier [] form = none_in 0 (length c.mutations)
count_rows c earlier (e ∷ rows) form =
    let more = one_in e rows 0 (length c.mutations) (omega arith) (omega (arith, form.0.mutation)) in
    omega (arith, more, count_rows c (earlier ++ e ∷ []) rows form.1)

-- the tests of all mutations are as many as the rows
pub rows_counted : (c : Campaign) (rows : List Entry) → IsFit c → AreRows c [] rows → AreNew c [] rows → tests_in (groups c rows) ≡ length rows
rows_counted c rows fit form new =
    same_tests (λ k. read_on c k rows) (λ k. answers_of k rows) (λ k. read_fresh c (answers_of k rows) fit (fresh_of c k [] rows new)) 0 (length c.mutations) ∙ count_rows c [] rows form
