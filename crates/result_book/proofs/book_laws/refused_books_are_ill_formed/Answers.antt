use Rattle.result_book.proofs.Refusals.{ill_formed}
use Rattle.result_book.proofs.book_laws.refused_books_are_ill_formed.Goals as goal

pub returns : goal.returns
returns c = ill_formed
