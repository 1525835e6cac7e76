use Rattle.result_book.proofs.Common.{[], false}
use Rattle.result_book.proofs.Growing.{rows_first}
use Rattle.result_book.proofs.book_laws.first_parts_are_rows.Goals as goal

pub returns : goal.returns
returns c = λ campaign rows more all. rows_first false campaign [] rows more all
