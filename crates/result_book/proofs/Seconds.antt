-- What is tested of a row of a book of the first format: it is the same after its rows as they are and as they are in the second format.
use Rattle.result_book.proofs.Common.{◌≡◌, ◌↔◌, inl, inr, ℕ, suc, ◌+◌, ◌<◌, ◌≤◌, Bool, true, false, List, [], ◌∷◌, ◌++◌, length, Option, None, Some, refl, sym, ◌∙◌, ap, subst, take, drop, get_or, ◌⊎◌}
use Rattle.result_book.proofs.Common.{IsTrue, All, eqb_tells, same_from_decides, length-map, take_all, take_more, Entry, Book, IsFirst, is_first, Need, Campaign, Seq, NoMutation, NoTest, Twice}
use Rattle.result_book.proofs.Common.{NotAsked, BadWord, Mark, Tags, Bound, Answer, IsRead, ask, mark_of, tags_of, word_in, AreRowsIn, IsPair, IsRow, IsRowIn, answer_of, answers_of, ask_on, history}
use Rattle.result_book.proofs.Common.{second_row, HasNone, HasOne, IsAnswered, IsAsked, IsAskedOn, IsFirstFault, IsMarked, IsOnce, IsPlaced, IsRowFault, IsStateOf, Progress}
use Rattle.std.proofs.Math.Seq.{split_at}
use Rattle.result_book.specs.declared.check.RowFault.{RowFault}
use Rattle.result_book.proofs.Formats.{history_rows, second_in_form, seconds, seconds_answers, seconds_more, seconds_same}
use Rattle.result_book.proofs.Grouping.{answers_of-other, answers_of-same}
use Rattle.result_book.proofs.Growing.{rows_more}
use Rattle.result_book.proofs.Pairs.{new_pair, not_both, old_pair}

-- as many rows, and the same answers of each mutation
record AreLike (xs ys : List Entry) : Type 0 where
  long : length xs ≡ length ys
  answers : (m : ℕ) → answers_of m xs ≡ answers_of m ys

like_back : (xs ys : List Entry) → AreLike xs ys → AreLike ys xs
like_back xs ys like = record { long = sym like.long; answers = λ m. sym (like.answers m) }

-- and with one more row
like_more : (xs ys : List Entry) (m : ℕ) (e : Entry) → AreLike xs ys → answers_of m (xs ++ e ∷ []) ≡ answers_of m (ys ++ e ∷ [])
like_more xs ys m e like = elim (eqb_tells e.mutation m) [
  | inl h ↦ answers_of-same m xs e h.1 ∙ ap (λ (l : List Answer). l ++ answer_of e ∷ []) (like.answers m) ∙ sym (answers_of-same m ys e h.1)
  | inr h ↦ answers_of-other m xs e h.1 ∙ like.answers m ∙ sym (answers_of-other m ys e h.1)
]

-- a pair without a row has no word
pub no_word_in : (m t : ℕ) (rows : List Entry) → All (λ row. ¬ IsPair m t row) rows → word_in (answers_of m rows) t ≡ None
no_word_in m t rows none = by (word_in (answers_of m rows) t) refl
  where
    by : (o : Option ℕ) → word_in (answers_of m rows) t ≡ o → o ≡ None
    by None at = refl
    by (Some word) at = absurd (not_both m t rows none (old_pair m t word rows at))

like_none : (xs ys : List Entry) (e : Entry) → AreLike xs ys → HasNone xs e → HasNone ys e
like_none xs ys e like none = new_pair e.mutation e.test ys (ap (λ (l : List Answer). word_in l e.test) (sym (like.answers e.mutation)) ∙ no_word_in e.mutation e.test xs none)

like_one : (xs ys : List Entry) (e : Entry) → AreLike xs ys → HasOne xs e → HasOne ys e
like_one xs ys e like one = by (word_in (answers_of e.mutation ys) e.test) refl
  where
    by : (o : Option ℕ) → word_in (answers_of e.mutation ys) e.test ≡ o → HasOne ys e
    by (Some word) at = old_pair e.mutation e.test word ys at
    by None at = absurd (not_both e.mutation e.test xs (new_pair e.mutation e.test xs (ap (λ (l : List Answer). word_in l e.test) (like.answers e.mutation) ∙ at)) one)

like_placed : (c : Campaign) (xs ys : List Entry) (e : Entry) → AreLike xs ys → IsPlaced c xs e → IsPlaced c ys e
like_placed c xs ys e like placed = record { seq = placed.seq ∙ like.long; mutation = placed.mutation; test = placed.test }

like_once : (xs ys : List Entry) (e : Entry) → AreLike xs ys → IsOnce true xs e → IsOnce true ys e
like_once xs ys e like once = elim once [
  | inl none ↦ inl (like_none xs ys e like none)
  | inr again ↦ absurd (let never : true ≡ false = again.0 in cc)
]

like_asked : (c : Campaign) (xs ys : List Entry) (e : Entry) → AreLike xs ys → IsAskedOn c xs e → IsAskedOn c ys e
like_asked c xs ys e like asked = subst (λ (l : List Answer). IsRead c l e.test ⊎ (ask c l ≡ Need e.test)) (like.answers e.mutation) asked

like_row_asked : (c : Campaign) (xs ys : List Entry) (e : Entry) → AreLike xs ys → IsAsked true c xs e → IsAsked true c ys e
like_row_asked c xs ys e like row = record { placed = like_placed c xs ys e like row.placed; once = like_once xs ys e like row.once; asked = like_asked c xs ys e like row.asked }

like_answered : (c : Campaign) (xs ys : List Entry) (e : Entry) → AreLike xs ys → IsAnswered true c xs e → IsAnswered true c ys e
like_answered c xs ys e like row = record { asked = like_row_asked c xs ys e like row.asked; word = row.word }

like_stands : (c : Campaign) (xs ys : List Entry) (e : Entry) → AreLike xs ys → ask_on c e.mutation (xs ++ e ∷ []) ≡ ask_on c e.mutation (ys ++ e ∷ [])
like_stands c xs ys e like = ap (ask c) (like_more xs ys e.mutation e like)

like_marked : (c : Campaign) (xs ys : List Entry) (e : Entry) → AreLike xs ys → IsMarked true c xs e → IsMarked true c ys e
like_marked c xs ys e like row = record {
  answered = like_answered c xs ys e like row.answered;
  mark = row.mark ∙ ap mark_of (like_stands c xs ys e like);
  tags = row.tags ∙ ap tags_of (like_stands c xs ys e like);
}

like_fault : (c : Campaign) (xs ys : List Entry) (e : Entry) (fault : RowFault) → AreLike xs ys → IsRowFault true c xs e fault → IsRowFault true c ys e fault
like_fault c xs ys e (Seq n) like bad = (bad.0 ∙ like.long, bad.1)
like_fault c xs ys e NoMutation like bad = (bad.0 ∙ like.long, bad.1)
like_fault c xs ys e NoTest like bad = (bad.0 ∙ like.long, bad.1, bad.2)
like_fault c xs ys e Twice like bad = (like_placed c xs ys e like bad.0, (like_one xs ys e like bad.1.0, inl refl))
like_fault c xs ys e NotAsked like bad = (like_placed c xs ys e like bad.0, like_once xs ys e like bad.1, λ asked. bad.2 (like_asked c ys xs e (like_back xs ys like) asked))
like_fault c xs ys e BadWord like bad = (like_row_asked c xs ys e like bad.0, bad.1)
like_fault c xs ys e (Mark n) like bad = (like_answered c xs ys e like bad.0, bad.1 ∙ ap mark_of (like_stands c xs ys e like), bad.2)
like_fault c xs ys e (Tags n) like bad = (like_answered c xs ys e like bad.0, bad.1 ∙ ap mark_of (like_stands c xs ys e like), bad.2 ∙ ap tags_of (like_stands c xs ys e like), bad.3)
like_fault c xs ys e (Bound n) like bad = (
  like_marked c xs ys e like bad.0,
  elim bad.1 [
    | inl new ↦ inl (like_none xs ys e like new.0, new.1, new.2)
    | inr old ↦ inr (like_one xs ys e like old.0, old.1, old.2)
  ],
)

like_row : (c : Campaign) (xs ys : List Entry) (e : Entry) → AreLike xs ys → IsRowIn true c xs e → IsRowIn true c ys e
like_row c xs ys e like row = record {
  seq = row.seq ∙ like.long;
  mutation = row.mutation;
  test = row.test;
  follows = (record { new = like_none xs ys e like row.follows.0.new; asked = ap (ask c) (sym (like.answers e.mutation)) ∙ row.follows.0.asked }, row.follows.1);
  word = row.word;
  mark = row.mark ∙ ap mark_of (like_stands c xs ys e like);
  tags = row.tags ∙ ap tags_of (like_stands c xs ys e like);
}

seconds_like : (c : Campaign) (rows : List Entry) → AreLike (seconds true c rows) rows
seconds_like c rows = record { long = length-map rows (second_row true c); answers = λ m. seconds_answers true c m rows }

second_fault : (first : Bool) (c : Campaign) (rows : List Entry) (e : Entry) (fault : RowFault) → IsRowFault first c (seconds first c rows) e fault → IsRowFault first c rows e fault
second_fault true c rows e fault bad = like_fault c (seconds true c rows) rows e fault (seconds_like c rows) bad
second_fault false c rows e fault bad = subst (λ (l : List Entry). IsRowFault false c l e fault) (seconds_same c rows) bad

second_stands : (first : Bool) (c : Campaign) (rows : List Entry) (e : Entry) → IsRowIn first c (seconds first c rows) e → IsRowIn first c rows e
second_stands true c rows e row = like_row c (seconds true c rows) rows e (seconds_like c rows) row
second_stands false c rows e row = subst (λ (l : List Entry). IsRowIn false c l e) (seconds_same c rows) row

-- The rows of a book, checked one after the other over the state of those before in the second format.

pub first_fault : (first : Bool) (c : Campaign) (rows journal : List Entry) (s : Progress) (i : ℕ) (d : Entry) (fault : RowFault) → rows ≡ journal → i < length rows → AreRowsIn first c [] (take i rows) → IsStateOf c (seconds first c (take i rows)) s
    → IsRowFault first c s.rows (get_or rows i d) fault → IsFirstFault first c journal (get_or rows i d) fault
first_fault first c rows journal s i d fault same inside good state bad = record {
  before = take i rows;
  after = drop (suc i) rows;
  rows_are = sym same ∙ split_at rows i d inside;
  good = good;
  bad = second_fault first c (take i rows) (get_or rows i d) fault (subst (λ (earlier : List Entry). IsRowFault first c earlier (get_or rows i d) fault) state.rows_are bad);
}

-- a row that may stand after the state's rows may stand after the book's
pub row_here : (first : Bool) (c : Campaign) (rows : List Entry) (s : Progress) (e : Entry) → IsStateOf c (seconds first c rows) s → IsRowIn first c s.rows e → IsRowIn first c rows e
row_here first c rows s e state row = second_stands first c rows e (subst (λ (l : List Entry). IsRowIn first c l e) state.rows_are row)

-- so it makes rows in form
pub rows_here : (first : Bool) (c : Campaign) (rows : List Entry) (s : Progress) (e : Entry) → AreRowsIn first c [] rows → IsStateOf c (seconds first c rows) s → IsRowIn first c s.rows e → AreRowsIn first c [] (rows ++ e ∷ [])
rows_here first c rows s e good state row = rows_more first c [] rows e good (row_here first c rows s e state row)

-- and in the second format it may come next in the state
pub row_there : (first : Bool) (c : Campaign) (rows : List Entry) (s : Progress) (e : Entry) → IsStateOf c (seconds first c rows) s → IsRowIn first c s.rows e → IsRow c s.rows (second_row first c e)
row_there first c rows s e state row =
    subst (λ (l : List Entry). IsRow c l (second_row first c e)) (sym state.rows_are) (second_in_form first c rows e (row_here first c rows s e state row))

-- with room for it
pub next_there : (first : Bool) (c : Campaign) (rows reserved : List Entry) (s : Progress) (e second : Entry) → IsStateOf c (seconds first c rows) s → IsRowIn first c s.rows e → reserved ≡ s.rows → second ≡ second_row first c e → IsRow c reserved second
next_there first c rows reserved s e second state row reserved_is second_is =
    subst (λ (l : List Entry). IsRow c l second) (sym reserved_is) (subst (λ (r : Entry). IsRow c s.rows r) (sym second_is) (row_there first c rows s e state row))

-- one row more
pub checked_more : (first : Bool) (c : Campaign) (rows reserved : List Entry) (s next : Progress) (i : ℕ) (d second : Entry) → i < length rows → AreRowsIn first c [] (take i rows) → IsStateOf c (seconds first c (take i rows)) s
    → IsRowIn first c s.rows (get_or rows i d) → reserved ≡ s.rows → second ≡ second_row first c (get_or rows i d) → IsStateOf c (reserved ++ second ∷ []) next
    → AreRowsIn first c [] (take (i + 1) rows) × IsStateOf c (seconds first c (take (i + 1) rows)) next
checked_more first c rows reserved s next i d second inside good state row reserved_is second_is after =
    let e : Entry = get_or rows i d in
    let more : take (i + 1) rows ≡ take i rows ++ e ∷ [] = take_more rows i d inside in
    let known : reserved ++ second ∷ [] ≡ seconds first c (take i rows ++ e ∷ []) =
    ap (λ (l : List Entry). l ++ second ∷ []) (reserved_is ∙ state.rows_are) ∙ ap (λ (r : Entry). seconds first c (take i rows) ++ r ∷ []) second_is ∙ sym (seconds_more first c (take i rows) e) in (
      subst (λ (l : List Entry). AreRowsIn first c [] l) (sym more) (rows_here first c (take i rows) s e good state row),
      subst (λ (l : List Entry). IsStateOf c (seconds first c l) next) (sym more) (subst (λ (l : List Entry). IsStateOf c l next) known after),
    )

-- whether a book is of the first format
first_told : (first : Bool) (book : Book) → (IsTrue first ↔ IsFirst book) → first ≡ is_first book
first_told first book tells = same_from_decides first (is_first book) tells (λ is. is, λ is. is)

-- a row with a fault
pub refused_row : (first : Bool) (c : Campaign) (book : Book) (e : Entry) (fault : RowFault) → (IsTrue first ↔ IsFirst book) → IsFirstFault first c book.journal e fault → IsFirstFault (is_first book) c book.journal e fault
refused_row first c book e fault tells found = subst (λ (b : Bool). IsFirstFault b c book.journal e fault) (first_told first book tells) found

-- all rows
pub checked_state : (first : Bool) (c : Campaign) (book : Book) (rows : List Entry) (s : Progress) (i : ℕ) → (IsTrue first ↔ IsFirst book) → rows ≡ book.journal → length rows ≤ i → IsStateOf c (seconds first c (take i rows)) s → IsStateOf c (history c book).journal s
checked_state first c book rows s i tells same all state =
    let known : seconds first c (take i rows) ≡ (history c book).journal = ap (seconds first c) (take_all i rows all ∙ same) ∙ ap (λ (b : Bool). seconds b c book.journal) (first_told first book tells) ∙ sym (history_rows c book) in
    subst (λ (l : List Entry). IsStateOf c l s) known state
