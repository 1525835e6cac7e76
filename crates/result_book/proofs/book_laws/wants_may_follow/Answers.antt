use Rattle.result_book.proofs.Wanting.{want_follows}
use Rattle.result_book.proofs.book_laws.wants_may_follow.Goals as goal

pub returns : goal.returns
returns c = want_follows
