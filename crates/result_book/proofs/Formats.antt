-- Books of the two formats, and the histories of those of the first.
use Rattle.result_book.proofs.Common.{◌≡◌, inl, ℕ, suc, Bool, true, false, List, [], ◌∷◌, ◌++◌, ◌≤◌, drop, length, map, refl, sym, ◌∙◌, ap, subst, arith, bytes_eq, IsTrue, All, length-map, All-cons}
use Rattle.result_book.proofs.Common.{All-nil, bytes_eq-Decides, Entry, Book, IsSecond, begins_with, first_number, in_second, is_first, second_number, upgraded, with_bounds, Campaign, ask, mark_of}
use Rattle.result_book.proofs.Common.{read_answers, tags_of, IsFit, first_bound, is_sim_test, AreRows, AreRowsIn, IsNew, IsPair, IsRow, IsRowIn, IsWellFormed, answers_of, ask_on, bound_of, bounds_of}
use Rattle.result_book.proofs.Common.{history, meta_in_second, read_on, second_row}
use Rattle.std.specs.Prelude.{if◌then◌else◌}
use Rattle.result_book.specs.BookLaws.{HasHistory}
use Rattle.result_book.proofs.Each.{each_from-same}

-- an item is not both numbers
not_both : (item : List ℕ) → bytes_eq item second_number ≡ true → bytes_eq item first_number ≡ false
not_both item is = ap (λ (i : List ℕ). bytes_eq i first_number) ((bytes_eq-Decides item second_number).0 is)

number_differs : (meta : List (List ℕ)) → begins_with second_number meta ≡ true → begins_with first_number meta ≡ false
number_differs [] is = refl
number_differs (item ∷ more) is = not_both item is

pub second_is_not_first : (book : Book) → IsSecond book → is_first book ≡ false
second_is_not_first book second = number_differs book.meta second

-- The rows of a book of the first format as they are in the second: each with its own bound.
abbrev pub seconds : Bool → Campaign → List Entry → List Entry
seconds first c rows = map (second_row first c) rows

pub seconds_bound : (c : Campaign) (rows : List Entry) → with_bounds (bounds_of c rows) rows ≡ seconds true c rows
seconds_bound c [] = refl
seconds_bound c (e ∷ rows) = ap (λ (t : List Entry). second_row true c e ∷ t) (seconds_bound c rows)

pub seconds_same : (c : Campaign) (rows : List Entry) → seconds false c rows ≡ rows
seconds_same c [] = refl
seconds_same c (e ∷ rows) = ap (λ (t : List Entry). e ∷ t) (seconds_same c rows)

-- the journal of a book's history
pub history_rows : (c : Campaign) (book : Book) → (history c book).journal ≡ seconds (is_first book) c book.journal
history_rows c book = by (is_first book)
  where
    by : (first : Bool) → (if first then upgraded (bounds_of c book.journal) book else book).journal ≡ seconds first c book.journal
    by true = seconds_bound c book.journal
    by false = sym (seconds_same c book.journal)

pub history_meta : (c : Campaign) (book : Book) → (history c book).meta ≡ meta_in_second book.meta
history_meta c book = by (is_first book)
  where
    by : (first : Bool) → (if first then upgraded (bounds_of c book.journal) book else book).meta ≡ (if first then in_second book.meta else book.meta)
    by true = refl
    by false = refl

-- the answers of a mutation do not depend on bounds
pub seconds_answers : (first : Bool) (c : Campaign) (m : ℕ) (rows : List Entry) → answers_of m (seconds first c rows) ≡ answers_of m rows
seconds_answers first c m [] = refl
seconds_answers true c m (e ∷ rows) = rw (seconds_answers true c m rows) refl
seconds_answers false c m (e ∷ rows) = rw (seconds_answers false c m rows) refl

pub seconds_more : (first : Bool) (c : Campaign) (rows : List Entry) (e : Entry) → seconds first c (rows ++ e ∷ []) ≡ seconds first c rows ++ second_row first c e ∷ []
seconds_more first c [] e = refl
seconds_more first c (r ∷ rows) e = ap (λ (t : List Entry). second_row first c r ∷ t) (seconds_more first c rows e)

-- nor does how the script stands
ask_seconds : (first : Bool) (c : Campaign) (m : ℕ) (rows : List Entry) → ask_on c m (seconds first c rows) ≡ ask_on c m rows
ask_seconds first c m rows = ap (ask c) (seconds_answers first c m rows)

after_seconds : (first : Bool) (c : Campaign) (m : ℕ) (earlier : List Entry) (e : Entry) → ask_on c m (seconds first c earlier ++ second_row first c e ∷ []) ≡ ask_on c m (earlier ++ e ∷ [])
after_seconds first c m earlier e = ap (ask_on c m) (sym (seconds_more first c earlier e)) ∙ ask_seconds first c m (earlier ++ e ∷ [])

none_seconds : (first : Bool) (c : Campaign) (m t : ℕ) (rows : List Entry) → All (λ row. ¬ IsPair m t row) rows → All (λ row. ¬ IsPair m t row) (seconds first c rows)
none_seconds first c m t [] none = All-nil (λ row. ¬ IsPair m t row)
none_seconds first c m t (r ∷ rows) none =
    All-cons (λ row. ¬ IsPair m t row) (second_row first c r) (seconds first c rows) (here first (none 0 r (omega arith))) (none_seconds first c m t rows (λ k d inside. none (suc k) d (omega (arith, inside))))
  where
    here : (b : Bool) → ¬ IsPair m t r → ¬ IsPair m t (second_row b c r)
    here true other = other
    here false other = other

-- a pair that is new stays new
pub seconds_new : (first : Bool) (c : Campaign) (earlier : List Entry) (m t : ℕ) → IsNew c earlier m t → IsNew c (seconds first c earlier) m t
seconds_new first c earlier m t new = record { new = none_seconds first c m t earlier new.new; asked = ask_seconds first c m earlier ∙ new.asked }

-- a row without a bound gets the first one of its test
old_bound : (c : Campaign) (e : Entry) → e.bound ≡ 0 → bound_of c e ≡ first_bound c e.test
old_bound c e none = by (is_sim_test c e.test)
  where
    by : (b : Bool) → (if b then e.bound else c.conflicts) ≡ (if b then 0 else c.conflicts)
    by true = none
    by false = refl

-- A row in form is one in the second format.
pub second_in_form : (first : Bool) (c : Campaign) (earlier : List Entry) (e : Entry) → IsRowIn first c earlier e → IsRow c (seconds first c earlier) (second_row first c e)
second_in_form true c earlier e row = record {
  seq = row.seq ∙ sym (length-map earlier (second_row true c));
  mutation = row.mutation;
  test = row.test;
  follows = inl (seconds_new true c earlier e.mutation e.test row.follows.0, old_bound c e row.follows.1);
  word = row.word;
  mark = row.mark ∙ ap mark_of (sym (after_seconds true c e.mutation earlier e));
  tags = row.tags ∙ ap tags_of (sym (after_seconds true c e.mutation earlier e));
}
second_in_form false c earlier e row = subst (λ (rows : List Entry). IsRow c rows e) (sym (seconds_same c earlier)) row

pub seconds_in_form : (first : Bool) (c : Campaign) (earlier rows : List Entry) → AreRowsIn first c earlier rows → AreRows c (seconds first c earlier) (seconds first c rows)
seconds_in_form first c earlier [] all = tt
seconds_in_form first c earlier (e ∷ rows) all =
    (second_in_form first c earlier e all.0, subst (λ (rs : List Entry). AreRows c rs (seconds first c rows)) (seconds_more first c earlier e) (seconds_in_form first c (earlier ++ e ∷ []) rows all.1))

-- The history of a well-formed book.

history_second : (c : Campaign) (book : Book) → IsFit c → IsWellFormed c book → IsSecond (history c book)
history_second c book fit form = subst (λ (meta : List (List ℕ)). IsTrue (begins_with second_number meta)) (sym (history_meta c book ∙ form.meta)) fit.format

pub history_mutations : (c : Campaign) (book : Book) → (history c book).mutations ≡ book.mutations
history_mutations c book = by (is_first book)
  where
    by : (first : Bool) → (if first then upgraded (bounds_of c book.journal) book else book).mutations ≡ book.mutations
    by true = refl
    by false = refl

history_in_form : (c : Campaign) (book : Book) → IsWellFormed c book → AreRows c [] (history c book).journal
history_in_form c book form = subst (AreRows c []) (sym (history_rows c book)) (seconds_in_form (is_first book) c [] book.journal form.rows)

-- What a book of the first format keeps, in the second: the other number, and the same behind it.
pub first_meta : (meta : List (List ℕ)) → begins_with first_number meta ≡ true → (meta_in_second meta ≡ second_number ∷ drop 1 meta) × (1 ≤ length meta)
first_meta [] is = absurd (let never : false ≡ true = is in cc)
first_meta (item ∷ more) is = (ap (λ (b : Bool). if b then second_number ∷ more else item ∷ more) is, omega arith)

-- what a campaign has there
pub second_parts : (meta : List (List ℕ)) → begins_with second_number meta ≡ true → (meta ≡ second_number ∷ drop 1 meta) × (1 ≤ length meta)
second_parts [] is = absurd (let never : false ≡ true = is in cc)
second_parts (item ∷ more) is = (ap (λ (i : List ℕ). i ∷ more) ((bytes_eq-Decides item second_number).0 is), omega arith)

-- an item of the second format is taken as it is
pub second_meta : (meta : List (List ℕ)) → begins_with first_number meta ≡ false → meta_in_second meta ≡ meta
second_meta meta other = ap (λ (b : Bool). if b then in_second meta else meta) other

pub has_history : (c : Campaign) (book : Book) → IsFit c → IsWellFormed c book → HasHistory c book
has_history c book fit form =
    let second = history_second c book fit form in
    let no_first : is_first (history c book) ≡ false = second_is_not_first (history c book) second in
    let rows = history_in_form c book form in
    record {
      second = second;
      form = record {
        meta = second_meta (history c book).meta no_first ∙ history_meta c book ∙ form.meta;
        mutations = history_mutations c book ∙ form.mutations;
        rows = subst (λ (first : Bool). AreRowsIn first c [] (history c book).journal) (sym no_first) rows;
      };
      rows = rows;
      groups = each_from-same (λ m. read_on c m book.journal) (λ m. read_on c m (history c book).journal) 0 (length c.mutations)
          (λ m above. ap (read_answers c) (ap (answers_of m) (history_rows c book) ∙ seconds_answers (is_first book) c m book.journal));
      length = ap length (history_rows c book) ∙ length-map book.journal (second_row (is_first book) c);
    }
