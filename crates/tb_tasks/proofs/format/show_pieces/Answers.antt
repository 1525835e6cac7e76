use Rattle.vlog_meaning.specs.Scopes.{names_of}
use Rattle.tb_tasks.proofs.Whole.{whole_from}
use Rattle.tb_tasks.proofs.format.show_pieces.Goals as goal

pub show_piece-requires-clause-whole : goal.show_piece-requires-clause-whole
show_piece-requires-clause-whole c = whole_from (names_of c.args.moment.now.scope.now) c.loop-piece.taken c.args.arguments.now c.requires.whole
