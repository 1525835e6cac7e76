use Rattle.result_book.proofs.Common.{subst, sym, Bool, IsRowIn}
use Rattle.result_book.proofs.Formats.{second_is_not_first}
use Rattle.result_book.proofs.Growing.{form_more, next_of}
use Rattle.result_book.proofs.book_laws.books_grow_by_rows.Goals as goal

pub returns : goal.returns
returns c = λ campaign book e second form row.
    let here = subst (λ (first : Bool). IsRowIn first campaign book.journal e) (sym (second_is_not_first book second)) row in
    (next_of campaign book e form here, form_more campaign book e form here)
