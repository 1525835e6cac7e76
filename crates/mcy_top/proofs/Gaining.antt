-- The rows that a call gains are those that were wanted.
use Rattle.mcy_top.proofs.Common.{◌≡◌, Bool, true, false, List, [], ◌∷◌, ◌++◌, length, arith, refl, sym, ap, subst, ◌∙◌, length-append, Entry, Book, blank, is_first, Goal, history, Prepared, IsPlan}
use Rattle.mcy_top.proofs.Common.{opened, book_of, AreWanted, Ran, book_second, GainsWanted}
use Rattle.mcy_top.proofs.Advancing.{history_second}
use Rattle.mcy_top.proofs.Prefixes.{bounded_length}

-- a history has as many rows
pub history_length : (c : Prepared) (book : Book) → length (history c.campaign book).journal ≡ length book.journal
history_length c book = go (is_first book) refl
  where
    go : (first : Bool) → is_first book ≡ first → length (history c.campaign book).journal ≡ length book.journal
    go true is = rw is (bounded_length c.campaign book.journal)
    go false is = rw is refl

none_more : (more : List Entry) → length more ≡ 0 → more ≡ []
none_more [] is = refl
none_more (e ∷ more) is = absurd (omega (arith, is))

-- a book has no rows beyond its own history
pub gains_none : (c : Prepared) (goal : Goal) (book : Book) → GainsWanted c goal book book
gains_none c goal book more rows =
    let few : length more ≡ 0 = omega (arith, ap length rows, length-append (history c.campaign book).journal more, history_length c book) in
    subst (λ (l : List Entry). AreWanted c goal (history c.campaign book).journal l) (sym (none_more more few)) tt

-- and neither has one that was begun beyond the empty one
pub gains_opened : (c : Prepared) (goal : Goal) → GainsWanted c goal blank (opened c)
gains_opened c goal more rows = subst (λ (l : List Entry). AreWanted c goal [] l) rows tt

-- what stands behind the same rows is the same
same_behind : (rows xs ys : List Entry) → rows ++ xs ≡ rows ++ ys → xs ≡ ys
same_behind [] xs ys is = is
same_behind (e ∷ rows) xs ys is = same_behind rows xs ys (let rest : rows ++ xs ≡ rows ++ ys = cc in rest)

pub gains_ran : (c : Prepared) (goal : Goal) (start rows : List Entry) → IsPlan c → Ran c goal start rows → GainsWanted c goal (book_of c start) (book_of c rows)
gains_ran c goal start rows plan ran more is =
    let old : history c.campaign (book_of c start) ≡ book_of c start = history_second c (book_of c start) (book_second c start plan) in
    let here : start ++ ran.goes_on.more ≡ start ++ more = sym ran.goes_on.rows ∙ is ∙ ap (λ (b : Book). b.journal ++ more) old in
    subst (λ (b : Book). AreWanted c goal b.journal more) (sym old) (subst (λ (l : List Entry). AreWanted c goal start l) (same_behind start ran.goes_on.more more here) ran.asked)
