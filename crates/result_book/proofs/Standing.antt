-- When a row that is right otherwise may stand after rows, and when its pair has too many.
use Rattle.result_book.proofs.Common.{◌≡◌, ◌≢◌, inl, inr, arith, ℕ, ◌<◌, ◌≤◌, Bool, true, false, not, ◌==◌, ◌&&◌, List, [], ◌∷◌, nat_lt, slice_get, Option, None, Some, refl, sym, ◌∙◌, ap, subst, ◌⊎◌}
use Rattle.result_book.proofs.Common.{IsSomeAnd, IsTrue, unwrap_or, and_parts, ltb-false, ltb-true, Decides-eqb, eqb_tells, get_or_from_slice_get, Entry, word_at, Campaign, Unknown, IsFit}
use Rattle.result_book.proofs.Common.{is_given_up, Answer, IsRead, asked_on, each_from, read_answers, word_code, word_in, words_of, IsNew, IsRowIn, MayStand, answers_of, bound_in, bounds_on, is_round}
use Rattle.result_book.proofs.Common.{HasNone, HasOne, IsAskedOn, IsMarked, IsOnce, IsPlaced, IsTwice, derived_bound, IsStateOf, Progress}
use Rattle.std.proofs.Common.{slice_index}
use Rattle.result_book.proofs.Asking.{need_new}
use Rattle.result_book.proofs.Each.{each_at}
use Rattle.result_book.proofs.Known.{AreOf, known_are}
use Rattle.result_book.proofs.Pairs.{bound_some, new_pair, not_both, old_pair}
use Rattle.result_book.proofs.Reading.{Reads, any_reads}
use Rattle.result_book.proofs.Seconds.{no_word_in}
use Rattle.result_book.proofs.StateLemmas.{bounds-at}
use Rattle.result_book.proofs.Words.{word_at-words_of}

-- A read test has a word.
known_there : (last : List (Option ℕ)) (answers : List Answer) (t : ℕ) → AreOf last answers → Reads t answers → word_at last t ≡ None → ⊥
known_there last [] t all reads none = reads
known_there last (a ∷ more) t all reads none = elim reads [
  | inl here ↦ (let never : Some a.word ≡ None = sym all.0 ∙ ap (word_at last) here ∙ none in cc)
  | inr there ↦ known_there last more t all.1 there none
]

read_there : (c : Campaign) (answers : List Answer) (t : ℕ) → t < 16 → IsRead c answers t → word_in answers t ≡ None → ⊥
read_there c answers t inside read none =
    known_there (words_of answers) (read_answers c answers) t (known_are (words_of answers) (asked_on c (words_of answers))) (any_reads t (read_answers c answers) read) (word_at-words_of answers t inside ∙ none)

-- A pair's first row that is asked for is new, and a later one's test is read.
asked_first : (c : Campaign) (rows : List Entry) (e : Entry) → e.test < 16 → IsAskedOn c rows e → HasNone rows e → IsNew c rows e.mutation e.test
asked_first c rows e inside asked none = record {
  new = none;
  asked = elim asked [
    | inl read ↦ absurd (read_there c (answers_of e.mutation rows) e.test inside read (no_word_in e.mutation e.test rows none))
    | inr need ↦ need
  ];
}

asked_later : (c : Campaign) (rows : List Entry) (e : Entry) → IsFit c → IsAskedOn c rows e → HasOne rows e → IsRead c (answers_of e.mutation rows) e.test
asked_later c rows e fit asked one = elim asked [
  | inl read ↦ read
  | inr need ↦ absurd (not_both e.mutation e.test rows (new_pair e.mutation e.test rows (need_new c (answers_of e.mutation rows) e.test fit need)) one)
]

-- so that it may stand with the right bound
first_follows : (first : Bool) (c : Campaign) (rows : List Entry) (e : Entry) → IsNew c rows e.mutation e.test → e.bound ≡ derived_bound first c e.test → MayStand first c rows e.mutation e.test e.bound
first_follows true c rows e new bound = (new, bound)
first_follows false c rows e new bound = inl (new, bound)

later_follows : (first : Bool) (c : Campaign) (rows : List Entry) (e : Entry) → IsRead c (answers_of e.mutation rows) e.test → HasOne rows e → IsOnce first rows e → is_round e.bound ≡ true → e.bound ≤ 100000
    → MayStand first c rows e.mutation e.test e.bound
later_follows true c rows e read one once round most = elim once [
  | inl none ↦ absurd (not_both e.mutation e.test rows none one)
  | inr again ↦ absurd (let never : true ≡ false = again.0 in cc)
]
later_follows false c rows e read one once round most = elim once [
  | inl none ↦ absurd (not_both e.mutation e.test rows none one)
  | inr again ↦ inr (record { read = read; given_up = again.1; round = round; most = most })
]

row_stands : (first : Bool) (c : Campaign) (rows : List Entry) (e : Entry) → IsMarked first c rows e → MayStand first c rows e.mutation e.test e.bound → IsRowIn first c rows e
row_stands first c rows e marked follows = record {
  seq = marked.answered.asked.placed.seq;
  mutation = marked.answered.asked.placed.mutation;
  test = marked.answered.asked.placed.test;
  follows = follows;
  word = marked.answered.word;
  mark = marked.mark;
  tags = marked.tags;
}

pub first_stands : (first : Bool) (c : Campaign) (rows : List Entry) (e : Entry) → IsFit c → IsMarked first c rows e → HasNone rows e → e.bound ≡ derived_bound first c e.test → IsRowIn first c rows e
first_stands first c rows e fit marked none bound =
    row_stands first c rows e marked (first_follows first c rows e (asked_first c rows e (omega (arith, marked.answered.asked.placed.test, fit.few_tests)) marked.answered.asked.asked none) bound)

pub later_stands : (first : Bool) (c : Campaign) (rows : List Entry) (e : Entry) → IsFit c → IsMarked first c rows e → HasOne rows e → is_round e.bound ≡ true → e.bound ≤ 100000 → IsRowIn first c rows e
later_stands first c rows e fit marked one round most =
    row_stands first c rows e marked (later_follows first c rows e (asked_later c rows e fit marked.answered.asked.asked one) one marked.answered.asked.once round most)

-- The bound of a pair with a word is that of its last row.

pub bounds_on-at : (m t : ℕ) (rows : List Entry) → t < 16 → slice_index (bounds_on m rows) t ≡ unwrap_or (bound_in m t rows) 0
unfolding bounds_on
bounds_on-at m t rows inside = get_or_from_slice_get (each_from (λ k. unwrap_or (bound_in m k rows) 0) 0 16) t (unwrap_or (bound_in m t rows) 0) 0 (each_at (λ k. unwrap_or (bound_in m k rows) 0) 16 t inside)

pub bound_known : (m t word : ℕ) (rows : List Entry) → t < 16 → word_in (answers_of m rows) t ≡ Some word → bound_in m t rows ≡ Some (slice_index (bounds_on m rows) t)
bound_known m t word rows inside some = by (bound_in m t rows) refl
  where
    by : (o : Option ℕ) → bound_in m t rows ≡ o → o ≡ Some (slice_index (bounds_on m rows) t)
    by None none = absurd (bound_some m t word rows some none)
    by (Some bound) at = ap Some (sym (bounds_on-at m t rows inside ∙ ap (λ (o : Option ℕ). unwrap_or o 0) at))

-- and is the one that a state has
pub bound_before : (c : Campaign) (rows : List Entry) (s : Progress) (e : Entry) (word bound : ℕ) → IsFit c → IsStateOf c rows s → IsPlaced c rows e → word_in (answers_of e.mutation rows) e.test ≡ Some word
    → ((bounds : List ℕ) → slice_get s.bounds e.mutation ≡ Some bounds → bound ≡ slice_index bounds e.test) → bound_in e.mutation e.test rows ≡ Some bound
bound_before c rows s e word bound fit state placed some is =
    bound_known e.mutation e.test word rows (omega (arith, placed.test, fit.few_tests)) some ∙ ap Some (sym (is (bounds_on e.mutation rows) (bounds-at c rows s e.mutation state placed.mutation)))

-- A row whose pair has one already: it is too many in a book of the first format, or where the last word is not UNKNOWN, or its bound
-- is not above the last one.
pub twice_word : (first : Bool) (rows : List Entry) (e : Entry) (word : ℕ) → word_in (answers_of e.mutation rows) e.test ≡ Some word → (first ≡ true) ⊎ (word ≢ word_code Unknown) → IsTwice first rows e
twice_word first rows e word some why = (
  old_pair e.mutation e.test word rows some,
  elim why [
    | inl old ↦ inl old
    | inr other ↦ inr (inl (λ is. other (let same : Some word ≡ Some (word_code Unknown) = sym some ∙ is in let here : word ≡ word_code Unknown = cc in here)))
  ],
)

pub twice_bound : (first : Bool) (rows : List Entry) (e : Entry) (word bound : ℕ) → word_in (answers_of e.mutation rows) e.test ≡ Some word → bound_in e.mutation e.test rows ≡ Some bound → e.bound ≤ bound → IsTwice first rows e
twice_bound first rows e word bound some at above = (old_pair e.mutation e.test word rows some, inr (inr (subst (λ (o : Option ℕ). IsSomeAnd o (λ before. e.bound ≤ before)) (sym at) above)))

-- and else it may be a further one
pub once_again : (first : Bool) (rows : List Entry) (e : Entry) (word bound : ℕ) → first ≡ false → word_in (answers_of e.mutation rows) e.test ≡ Some word → word ≡ word_code Unknown → bound_in e.mutation e.test rows ≡ Some bound → bound < e.bound → IsOnce first rows e
once_again first rows e word bound second some unknown at above =
    inr (second, record { word = some ∙ ap Some unknown; below = subst (λ (o : Option ℕ). IsSomeAnd o (λ before. before < e.bound)) (sym at) above })

-- By whether the last row was given up under less than the bound of the row.

pub given_up_parts : (limit word bound : ℕ) → is_given_up limit word bound ≡ true → (word ≡ word_code Unknown) × (bound < limit)
given_up_parts limit word bound is =
    let both = and_parts (word == word_code Unknown) (nat_lt bound limit) is in
    ((Decides-eqb word (word_code Unknown)).0 both.0, ltb-true bound limit both.1)

pub twice_kept : (first : Bool) (rows : List Entry) (e : Entry) (word before : ℕ) → word_in (answers_of e.mutation rows) e.test ≡ Some word → bound_in e.mutation e.test rows ≡ Some before → is_given_up e.bound word before ≡ false → IsTwice first rows e
twice_kept first rows e word before some at kept = elim (eqb_tells word (word_code Unknown)) [
  | inl h ↦ twice_bound first rows e word before some at (ltb-false before e.bound (sym (ap (λ (b : Bool). b && nat_lt before e.bound) h.0) ∙ kept))
  | inr h ↦ twice_word first rows e word some (inr h.1)
]

pub once_given_up : (first : Bool) (rows : List Entry) (e : Entry) (word before : ℕ) → first ≡ false → word_in (answers_of e.mutation rows) e.test ≡ Some word → bound_in e.mutation e.test rows ≡ Some before → is_given_up e.bound word before ≡ true → IsOnce first rows e
once_given_up first rows e word before second some at is =
    let parts = given_up_parts e.bound word before is in
    once_again first rows e word before second some parts.0 at parts.1

-- the same by what the code tests
not_told : (b : Bool) → IsTrue (not b) → b ≡ false
not_told true is = absurd (let never : false ≡ true = is in cc)
not_told false is = refl

told_not : (b : Bool) → not b ≡ false → b ≡ true
told_not true is = refl
told_not false is = absurd (let never : true ≡ false = is in cc)

pub twice_told : (first : Bool) (rows : List Entry) (e : Entry) (word before : ℕ) (given_up : Bool) → word_in (answers_of e.mutation rows) e.test ≡ Some word → bound_in e.mutation e.test rows ≡ Some before → given_up ≡ is_given_up e.bound word before → IsTrue (not given_up)
    → IsTwice first rows e
twice_told first rows e word before given_up some at tells kept = twice_kept first rows e word before some at (sym tells ∙ not_told given_up kept)

pub once_told : (first : Bool) (rows : List Entry) (e : Entry) (word before : ℕ) (given_up : Bool) → first ≡ false → word_in (answers_of e.mutation rows) e.test ≡ Some word → bound_in e.mutation e.test rows ≡ Some before → given_up ≡ is_given_up e.bound word before → not given_up ≡ false
    → IsOnce first rows e
once_told first rows e word before given_up second some at tells kept = once_given_up first rows e word before second some at (sym tells ∙ told_not given_up kept)
