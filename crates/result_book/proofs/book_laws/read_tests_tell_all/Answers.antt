use Rattle.result_book.proofs.Reading.{read_again, read_asks}
use Rattle.result_book.proofs.book_laws.read_tests_tell_all.Goals as goal

pub returns : goal.returns
returns c = λ campaign answers fit. (read_asks campaign answers fit, read_again campaign answers fit)
