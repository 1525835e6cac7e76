-- Rows, one more at the end.
use Rattle.std.proofs.Common.{◌≡◌, inl, inr, ℕ, ◌+◌, Bool, false, List, [], ◌∷◌, ◌++◌, length, refl, sym, ap, subst, ◌∙◌, append_assoc, length-append}
use Rattle.std.proofs.lemmas.List.{append-nil}
use Rattle.mcy_keeper.specs.declared.book.Entry.{Entry}
use Rattle.mcy_keeper.specs.declared.book.Book.{Book}
use Rattle.mcy_keeper.specs.Books.{is_first, IsSecond, with_entry}
use Rattle.result_book.proofs.Formats.{second_is_not_first}
use Rattle.result_book.specs.declared.goal.Goal.{Goal}
use Rattle.campaign_plan.specs.declared.prepared.Prepared.{Prepared}
use Rattle.result_book.specs.Rows.{AreRows, AreRowsIn, IsPair, IsRow, IsWellFormed}
use Rattle.campaign_plan.specs.Campaigns.{IsPlan}
use Rattle.campaign_plan.proofs.Plans.{plan_fit}
use Rattle.campaign_run.specs.Rows.{AreRight, IsNextRow, IsRightWord}
use Rattle.campaign_run.specs.Changes.{Course, IsChange}
use Rattle.campaign_run.specs.Running.{book_of, IsWanted, Ran}
use Rattle.campaign_run.proofs.Asking.{wanted_more}

pub rows_more : (c : Prepared) (earlier rows : List Entry) (e : Entry) → AreRows c.campaign earlier rows → IsRow c.campaign (earlier ++ rows) e → AreRows c.campaign earlier (rows ++ e ∷ [])
rows_more c earlier [] e all row = (subst (λ (rs : List Entry). IsRow c.campaign rs e) (append-nil earlier) row, tt)
rows_more c earlier (x ∷ rows) e all row =
    (all.0, rows_more c (earlier ++ x ∷ []) rows e all.1 (subst (λ (rs : List Entry). IsRow c.campaign rs e) (sym (append_assoc earlier (x ∷ []) rows)) row))

pub right_more : (c : Prepared) (rows : List Entry) (e : Entry) → AreRight c rows → IsRightWord c e.mutation e.test e.bound e.word → AreRight c (rows ++ e ∷ [])
right_more c [] e all row = (row, tt)
right_more c (x ∷ rows) e all row = (all.0, right_more c rows e all.1 row)

-- the rows of a book of the second format
second_rows : (c : Prepared) (book : Book) → IsSecond book → IsWellFormed c.campaign book → AreRows c.campaign [] book.journal
second_rows c book second form = subst (λ (first : Bool). AreRowsIn first c.campaign [] book.journal) (second_is_not_first book second) form.rows

pub form_more : (c : Prepared) (book : Book) (e : Entry) → IsWellFormed c.campaign book → IsNextRow c book e → IsWellFormed c.campaign (with_entry book e)
form_more c book e form next = record {
  meta = form.meta;
  mutations = form.mutations;
  rows = subst (λ (first : Bool). AreRowsIn first c.campaign [] (book.journal ++ e ∷ [])) (sym (second_is_not_first book next.second)) (rows_more c [] book.journal e (second_rows c book next.second form) next.row);
}

-- a book is of the second format that a campaign begins
pub book_second : (c : Prepared) (rows : List Entry) → IsPlan c → IsSecond (book_of c rows)
book_second c rows plan = (plan_fit c plan).format

-- and is well-formed where its rows are
pub book_form : (c : Prepared) (rows : List Entry) → IsPlan c → AreRows c.campaign [] rows → IsWellFormed c.campaign (book_of c rows)
book_form c rows plan are =
    let none : is_first (book_of c rows) ≡ false = second_is_not_first (book_of c rows) (book_second c rows plan) in record {
      meta = rw none refl;
      mutations = refl;
      rows = subst (λ (first : Bool). AreRowsIn first c.campaign [] rows) (sym none) are;
    }

pub course_more : (c : Prepared) (start : Book) (changes : List Book) (end next : Book) → Course c start changes end → IsChange c end next → Course c start (changes ++ next ∷ []) next
course_more c start [] end next course change = (subst (λ (b : Book). IsChange c b next) course change, refl)
course_more c start (x ∷ changes) end next course change = (course.0, course_more c x changes end next course.1 change)

-- where no row was added
pub ran_none : (c : Prepared) (goal : Goal) (rows : List Entry) → IsPlan c → AreRows c.campaign [] rows → Ran c goal rows rows
ran_none c goal rows plan are = record {
  goes_on = record { meta = refl; mutations = refl; more = []; rows = sym (append-nil rows) };
  asked = tt;
  form = book_form c rows plan are;
  words_right = λ all. all;
  changes = [];
  course = refl;
}

pub ran_more : (c : Prepared) (goal : Goal) (start rows : List Entry) (e : Entry) → Ran c goal start rows → IsNextRow c (book_of c rows) e → IsWanted c goal rows e → Ran c goal start (rows ++ e ∷ [])
ran_more c goal start rows e ran next asked = record {
  goes_on = record {
    meta = refl;
    mutations = refl;
    more = ran.goes_on.more ++ e ∷ [];
    rows = ap (λ (l : List Entry). l ++ e ∷ []) ran.goes_on.rows ∙ append_assoc start ran.goes_on.more (e ∷ []);
  };
  asked = wanted_more c goal start ran.goes_on.more e ran.asked (subst (λ (rs : List Entry). IsWanted c goal rs e) ran.goes_on.rows asked);
  form = form_more c (book_of c rows) e ran.form next;
  words_right = λ all. right_more c rows e (ran.words_right all) next.word_right;
  changes = ran.changes ++ book_of c (rows ++ e ∷ []) ∷ [];
  course = course_more c (book_of c start) ran.changes (book_of c rows) (book_of c (rows ++ e ∷ [])) ran.course (inr (inl (record { form = ran.form; row = e; may = next; is = refl })));
}

pub length_more : (rows : List Entry) (e : Entry) → length (rows ++ e ∷ []) ≡ length rows + 1
length_more rows e = length-append rows (e ∷ [])

pub next_row_of : (c : Prepared) (rows : List Entry) (e : Entry) (m t bound word : ℕ) → IsPlan c → IsRow c.campaign rows e → IsPair m t e → e.bound ≡ bound → e.word ≡ word → IsRightWord c m t bound word → IsNextRow c (book_of c rows) e
next_row_of c rows e m t bound word plan row pair under is right = record { second = book_second c rows plan; row = row; word_right = rw (pair.0, pair.1, under, is) right }
