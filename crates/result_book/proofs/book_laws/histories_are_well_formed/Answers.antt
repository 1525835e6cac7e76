use Rattle.result_book.proofs.Formats.{has_history}
use Rattle.result_book.proofs.book_laws.histories_are_well_formed.Goals as goal

pub returns : goal.returns
returns c = has_history
