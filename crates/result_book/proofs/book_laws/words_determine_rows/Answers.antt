use Rattle.result_book.proofs.Refusals.{one_row}
use Rattle.result_book.proofs.book_laws.words_determine_rows.Goals as goal

pub returns : goal.returns
returns c = one_row
