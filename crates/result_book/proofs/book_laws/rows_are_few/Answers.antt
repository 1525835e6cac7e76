use Rattle.result_book.proofs.Counting.{few_answers, few_rows}
use Rattle.result_book.proofs.book_laws.rows_are_few.Goals as goal

pub returns : goal.returns
returns c = λ campaign rows fit all. (λ m. few_answers campaign rows m fit all, few_rows campaign rows fit all)
