-- Lists of lives.
use Rattle.mcy_top.proofs.Common.{◌≡◌, inl, inr, arith, ℕ, ◌+◌, ◌≤◌, Bool, List, [], ◌∷◌, ◌++◌, length, map, refl, sym, ap, subst, ◌∙◌, Option, Some, All, AllPairs, All-cons, All-nil, All-weaker}
use Rattle.mcy_top.proofs.Common.{AllPairs-cons, Entry, Book, map-append, begins_with, first_number, is_first, with_entry, LeavesNothingNew, Held, Prepared, Outcome, IsPlan, Course, IsChange, IsNear}
use Rattle.mcy_top.proofs.Common.{Campaign, history, meta_in_second, second_row, AreRowsIn, history_rows, seconds, rows_first, AreRight, GoesOn, IsBlankOrGood, IsGood, IsPrefix, IsWithinOne}
use Rattle.mcy_top.proofs.Common.{LeavesBooks, Life, Unloaded, books_of, AreSafe, HasFinalTexts, IsHistory, IsStart, Lived, RunsOnce, weaker_books}
use Rattle.mcy_top.specs.Calls.{IsCovered, IsLived, IsSureBook}
use Rattle.mcy_top.proofs.Advancing.{good_history, good_more, good_rows, history_first, opened_form, upgrade_is}
use Rattle.mcy_top.proofs.Finishing.{final_is}
use Rattle.mcy_top.proofs.Once.{right_of}
use Rattle.mcy_top.proofs.Pairs.{runs_once}
use Rattle.mcy_top.proofs.Prefixes.{on_itself, prefix_few, prefix_itself, prefix_on, prefix_trans}

-- One change, and many.

change_prefix : (c : Prepared) (book next : Book) → IsPlan c → IsChange c book next → IsPrefix book next
change_prefix c book next plan (inl begin) = inl begin.0
change_prefix c book next plan (inr (inl added)) = subst (λ (b : Book). IsPrefix book b) (sym added.is) (prefix_on book (with_entry book added.row) (record { meta = refl; mutations = refl; more = added.row ∷ []; rows = refl }))
change_prefix c book next plan (inr (inr up)) = inr (record { one = next; two = next; stands = inr (upgrade_is c book next plan up); other_stands = inl refl; goes_on = on_itself next })

change_good : (c : Prepared) (book next : Book) → IsPlan c → IsChange c book next → IsBlankOrGood book → IsBlankOrGood next
change_good c book next plan (inl begin) was = inr (subst IsGood (sym begin.1) (good_rows c [] plan (opened_form c plan) tt))
change_good c book next plan (inr (inl added)) was = inr (subst IsGood (sym added.is) (good_more c book added.row plan added.form added.may (right_of c book plan added.form was)))
change_good c book next plan (inr (inr up)) was = inr (subst IsGood (sym (up.is ∙ sym (history_first c book up.first))) (good_history c book plan up.form (right_of c book plan up.form was)))

pub near_prefix : (c : Prepared) (sure next : Book) → IsPlan c → IsNear c sure next → IsPrefix sure next
near_prefix c sure next plan (inl same) = subst (λ (b : Book). IsPrefix sure b) (sym same) (prefix_itself sure)
near_prefix c sure next plan (inr change) = change_prefix c sure next plan change

pub near_good : (c : Prepared) (sure next : Book) → IsPlan c → IsNear c sure next → IsBlankOrGood sure → IsBlankOrGood next
near_good c sure next plan (inl same) was = subst IsBlankOrGood (sym same) was
near_good c sure next plan (inr change) was = change_good c sure next plan change was

pub course_good : (c : Prepared) (start : Book) (changes : List Book) (end : Book) → IsPlan c → Course c start changes end → IsBlankOrGood start → IsBlankOrGood end
course_good c start [] end plan course was = subst IsBlankOrGood (sym course) was
course_good c start (next ∷ more) end plan course was = course_good c next more end plan course.1 (change_good c start next plan course.0 was)

-- The books of a life, and those of the lives after it.

books_good : (c : Prepared) (start : Book) (changes : List Book) (end : Book) (later : List Book) → IsPlan c → Course c start changes end → IsBlankOrGood start → All IsBlankOrGood later → All IsBlankOrGood ((start ∷ changes ++ end ∷ []) ++ later)
books_good c start [] end later plan course was rest = All-cons IsBlankOrGood start (end ∷ later) was (All-cons IsBlankOrGood end later (subst IsBlankOrGood (sym course) was) rest)
books_good c start (next ∷ more) end later plan course was rest =
    All-cons IsBlankOrGood start ((next ∷ more ++ end ∷ []) ++ later) was (books_good c next more end later plan course.1 (change_good c start next plan course.0 was) rest)

all_good : (start : Book) (lives : List Lived) → IsBlankOrGood start → IsHistory start lives → All IsBlankOrGood (books_of lives)
all_good start [] was history = All-nil IsBlankOrGood
all_good start (l ∷ more) was (same, life, (next, near, history)) =
    let begin : IsBlankOrGood l.start = subst IsBlankOrGood (sym same) was in
    let end : IsBlankOrGood l.sure = course_good l.prepared l.start l.changes l.sure life.plan life.course begin in
    books_good l.prepared l.start l.changes l.sure (books_of more) life.plan life.course begin (all_good next more (near_good l.prepared l.sure next life.plan near end) history)

-- a book that is a first part of the start is one of all that follow
books_after : (book : Book) (c : Prepared) (start : Book) (changes : List Book) (end : Book) (later : List Book) → IsPlan c → Course c start changes end → IsPrefix book start → (IsPrefix book end → All (IsPrefix book) later) → All (IsPrefix book) ((start ∷ changes ++ end ∷ []) ++ later)
books_after book c start [] end later plan course before rest =
    let last : IsPrefix book end = subst (λ (b : Book). IsPrefix book b) (sym course) before in
    All-cons (IsPrefix book) start (end ∷ later) before (All-cons (IsPrefix book) end later last (rest last))
books_after book c start (next ∷ more) end later plan course before rest =
    All-cons (IsPrefix book) start ((next ∷ more ++ end ∷ []) ++ later) before (books_after book c next more end later plan course.1 (prefix_trans book start next before (change_prefix c start next plan course.0)) rest)

all_after : (book start : Book) (lives : List Lived) → IsPrefix book start → IsHistory start lives → All (IsPrefix book) (books_of lives)
all_after book start [] before history = All-nil (IsPrefix book)
all_after book start (l ∷ more) before (same, life, (next, near, history)) =
    books_after book l.prepared l.start l.changes l.sure (books_of more) life.plan life.course (subst (λ (b : Book). IsPrefix book b) (sym same) before)
    (λ end. all_after book next more (prefix_trans book l.sure next end (near_prefix l.prepared l.sure next life.plan near)) history)

books_kept : (c : Prepared) (start : Book) (changes : List Book) (end : Book) (later : List Book) → IsPlan c → Course c start changes end → ((book : Book) → IsPrefix book end → All (IsPrefix book) later) → AllPairs IsPrefix later → AllPairs IsPrefix ((start ∷ changes ++ end ∷ []) ++ later)
books_kept c start [] end later plan course rest kept =
    let last : IsPrefix start end = subst (λ (b : Book). IsPrefix start b) (sym course) (prefix_itself start) in
    AllPairs-cons IsPrefix start (end ∷ later) (All-cons (IsPrefix start) end later last (rest start last)) (AllPairs-cons IsPrefix end later (rest end (prefix_itself end)) kept)
books_kept c start (next ∷ more) end later plan course rest kept =
    AllPairs-cons IsPrefix start ((next ∷ more ++ end ∷ []) ++ later) (books_after start c next more end later plan course.1 (change_prefix c start next plan course.0) (rest start)) (books_kept c next more end later plan course.1 rest kept)

all_kept : (start : Book) (lives : List Lived) → IsHistory start lives → AllPairs IsPrefix (books_of lives)
all_kept start [] history = λ i j d lt within. absurd (omega (arith, within))
all_kept start (l ∷ more) (same, life, (next, near, history)) =
    books_kept l.prepared l.start l.changes l.sure (books_of more) life.plan life.course
    (λ book end. all_after book next more (prefix_trans book l.sure next end (near_prefix l.prepared l.sure next life.plan near)) history) (all_kept next more history)

-- No pair is run again, save given-up ones under greater limits.

book_runs_once : (book : Book) → IsBlankOrGood book → RunsOnce book
book_runs_once book (inl empty) = subst RunsOnce (sym empty) (λ i j d lt within. absurd (omega (arith, within)))
book_runs_once book (inr good) = runs_once (is_first book) good.prepared.campaign book.journal good.form.rows

-- A finished book's texts.

all_final : (start : Book) (lives : List Lived) → IsBlankOrGood start → IsHistory start lives → All (λ l. HasFinalTexts l.prepared l.sure) lives
all_final start [] was history = All-nil (λ l. HasFinalTexts l.prepared l.sure)
all_final start (l ∷ more) was (same, life, (next, near, history)) =
    let end : IsBlankOrGood l.sure = course_good l.prepared l.start l.changes l.sure life.plan life.course (subst IsBlankOrGood (sym same) was) in
    All-cons (λ l. HasFinalTexts l.prepared l.sure) l more (λ command form finished. final_is command l.prepared l.sure life.plan (right_of l.prepared l.sure life.plan form end) finished)
    (all_final next more (near_good l.prepared l.sure next life.plan near end) history)

-- lives may begin with this book
pub start_good : (start : Book) → IsStart start → IsBlankOrGood start
start_good start (inl empty) = inl empty
start_good start (inr good) = inr good.0

pub lives_safe : (start : Book) (lives : List Lived) → IsStart start → IsHistory start lives → AreSafe lives
lives_safe start lives is history =
    let good : All IsBlankOrGood (books_of lives) = all_good start lives (start_good start is) history in
    record {
      good = good;
      once = All-weaker IsBlankOrGood RunsOnce book_runs_once (books_of lives) good;
      kept = all_kept start lives history;
      final = all_final start lives (start_good start is) history;
    }

-- A first part of a good book is good.

right_first : (c : Prepared) (rows more : List Entry) → AreRight c (rows ++ more) → AreRight c rows
right_first c [] more all = tt
right_first c (row ∷ rows) more all = (all.0, right_first c rows more all.1)

-- it is of the same format
part_first : (book part : Book) → GoesOn part book → is_first book ≡ is_first part
part_first book part on = ap (λ (meta : List (List ℕ)). begins_with first_number meta) on.meta

-- the rows of its history are first ones of the other's
part_rows : (c : Campaign) (book part : Book) → (on : GoesOn part book) → (history c book).journal ≡ (history c part).journal ++ map (second_row (is_first part) c) on.more
part_rows c book part on =
    history_rows c book
    ∙ ap (λ (first : Bool). seconds first c book.journal) (part_first book part on)
    ∙ ap (seconds (is_first part) c) on.rows
    ∙ map-append (second_row (is_first part) c) part.journal on.more
    ∙ ap (λ (rows : List Entry). rows ++ map (second_row (is_first part) c) on.more) (sym (history_rows c part))

pub part_good : (book part : Book) → IsGood book → GoesOn part book → IsGood part
part_good book part good on =
    let c : Campaign = good.prepared.campaign in
    let rows : AreRowsIn (is_first book) c [] (part.journal ++ on.more) = subst (AreRowsIn (is_first book) c []) on.rows good.form.rows in
    record {
      prepared = good.prepared;
      plan = good.plan;
      form = record {
        meta = ap meta_in_second (sym on.meta) ∙ good.form.meta;
        mutations = sym on.mutations ∙ good.form.mutations;
        rows = rows_first (is_first part) c [] part.journal on.more (subst (λ (first : Bool). AreRowsIn first c [] (part.journal ++ on.more)) (part_first book part on) rows);
      };
      words_right = right_first good.prepared (history c part).journal (map (second_row (is_first part) c) on.more) (subst (AreRight good.prepared) (part_rows c book part on) good.words_right);
    }

-- What a call is sure of.

covered : (leaves : Option Book → Type 0) (sure book : Book) → LeavesBooks leaves (IsWithinOne sure) → IsSureBook leaves book → IsCovered leaves sure book
covered leaves sure book within longest =
    let before : IsPrefix sure book = longest.longest sure (λ other is. (within (Some other) is).prefix) in
    record {
      prefix = before;
      one = weaker_books leaves (IsWithinOne sure) (λ other. length other.journal ≤ length book.journal + 1) (λ other one. omega (arith, one.one, prefix_few sure book before)) within;
    }

pub call_covered : (words : List (List ℕ)) (held : Option Held) (holds : Book → Type 0) (leaves leaves' : Option Book → Type 0) (written written' : Option (List ℕ)) (taken taken' : ℕ) (outcome : Outcome)
    → (life : Life words held holds leaves leaves' written written' taken taken' outcome) → (book : Book) → IsSureBook leaves' book → IsCovered leaves' life.work.sure book
call_covered words held holds leaves leaves' written written' taken taken' outcome life book longest = covered leaves' life.work.sure book life.work.book.within_one longest

pub lived_of : (words : List (List ℕ)) (held : Option Held) (holds : Book → Type 0) (leaves leaves' : Option Book → Type 0) (written written' : Option (List ℕ)) (taken taken' : ℕ) (outcome : Outcome)
    → (life : Life words held holds leaves leaves' written written' taken taken' outcome) → IsLived leaves leaves' life.prepared life.loaded life.work.sure
lived_of words held holds leaves leaves' written written' taken taken' outcome life = record {
  changes = life.work.book.changes;
  life = record { plan = record { config = life.made.config; files = life.made.files; made = life.made.made }; course = life.work.book.course };
  started = life.allowed;
  near = life.work.book.near;
}

pub unloaded_left : (words : List (List ℕ)) (leaves leaves' : Option Book → Type 0) (taken taken' : ℕ) (outcome : Outcome) → Unloaded words leaves leaves' taken taken' outcome → LeavesNothingNew leaves leaves'
unloaded_left words leaves leaves' taken taken' outcome (inl early) = early.leaves_is
unloaded_left words leaves leaves' taken taken' outcome (inr aside) = aside.leaves_is
