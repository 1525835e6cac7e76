use Rattle.std.proofs.Common.{rules}
use Rattle.tb_watch.proofs.Pieces.{finds-occurs}
use Rattle.tb_watch.proofs.search.occurs.Goals as goal

pub returns : goal.returns
returns c = finds-occurs c.args.text.now c.args.word.now c.find.result c.is_some.result (search rules) c.find.ensures c.is_some.ensures
