-- Rows, one more at the end.
use Rattle.result_book.proofs.Common.{◌≡◌, ℕ, Bool, ◌+◌, List, [], ◌∷◌, ◌++◌, length, refl, sym, ap, subst, ◌∙◌, append_assoc, length-append, append-nil, Entry, Book, AreNumbered, IsNext, is_first}
use Rattle.result_book.proofs.Common.{with_entry, Campaign, AreRowsIn, IsRowIn, IsWellFormed}

pub rows_more : (first : Bool) (c : Campaign) (earlier rows : List Entry) (e : Entry) → AreRowsIn first c earlier rows → IsRowIn first c (earlier ++ rows) e → AreRowsIn first c earlier (rows ++ e ∷ [])
rows_more first c earlier [] e all row = (subst (λ (rs : List Entry). IsRowIn first c rs e) (append-nil earlier) row, tt)
rows_more first c earlier (x ∷ rows) e all row =
    (all.0, rows_more first c (earlier ++ x ∷ []) rows e all.1 (subst (λ (rs : List Entry). IsRowIn first c rs e) (sym (append_assoc earlier (x ∷ []) rows)) row))

-- a first part of rows is rows
pub rows_first : (first : Bool) (c : Campaign) (earlier rows more : List Entry) → AreRowsIn first c earlier (rows ++ more) → AreRowsIn first c earlier rows
rows_first first c earlier [] more all = tt
rows_first first c earlier (x ∷ rows) more all = (all.0, rows_first first c (earlier ++ x ∷ []) rows more all.1)

-- and the rest is rows after them
pub rows_rest : (first : Bool) (c : Campaign) (earlier rows more : List Entry) → AreRowsIn first c earlier (rows ++ more) → AreRowsIn first c (earlier ++ rows) more
rows_rest first c earlier [] more all = subst (λ (rs : List Entry). AreRowsIn first c rs more) (sym (append-nil earlier)) all
rows_rest first c earlier (x ∷ rows) more all =
    subst (λ (rs : List Entry). AreRowsIn first c rs more) (append_assoc earlier (x ∷ []) rows) (rows_rest first c (earlier ++ x ∷ []) rows more all.1)

-- rows are numbered by their places
pub are_numbered : (first : Bool) (c : Campaign) (earlier rows : List Entry) (from : ℕ) → length earlier ≡ from → AreRowsIn first c earlier rows → AreNumbered from rows
are_numbered first c earlier [] from at all = tt
are_numbered first c earlier (x ∷ rows) from at all =
    (all.0.seq ∙ at, are_numbered first c (earlier ++ x ∷ []) rows (from + 1) (length-append earlier (x ∷ []) ∙ ap (λ (n : ℕ). n + 1) at) all.1)

-- a well-formed book and its next row meet what a keeper asks of an append
pub next_of : (c : Campaign) (book : Book) (e : Entry) → IsWellFormed c book → IsRowIn (is_first book) c book.journal e → IsNext book e
next_of c book e form row = record { numbered = are_numbered (is_first book) c [] book.journal 0 refl form.rows; next = row.seq }

-- and make a well-formed book
pub form_more : (c : Campaign) (book : Book) (e : Entry) → IsWellFormed c book → IsRowIn (is_first book) c book.journal e → IsWellFormed c (with_entry book e)
form_more c book e form row = record { meta = form.meta; mutations = form.mutations; rows = rows_more (is_first book) c [] book.journal e form.rows row }
