use Rattle.result_book.proofs.Asking.{ask_is}
use Rattle.result_book.proofs.book_laws.missing_words_play_no_part.Goals as goal

pub returns : goal.returns
returns c = ask_is
