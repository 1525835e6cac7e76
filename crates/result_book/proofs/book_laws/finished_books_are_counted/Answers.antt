use Rattle.result_book.proofs.Finishing.{finished_counted}
use Rattle.result_book.proofs.book_laws.finished_books_are_counted.Goals as goal

pub returns : goal.returns
returns c = finished_counted
