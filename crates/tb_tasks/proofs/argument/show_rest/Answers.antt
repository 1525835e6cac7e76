use Rattle.vlog_meaning.specs.Scopes.{names_of}
use Rattle.tb_tasks.proofs.Whole.{whole_at}
use Rattle.tb_tasks.proofs.argument.show_rest.Goals as goal

pub show_argument-requires-clause-whole : goal.show_argument-requires-clause-whole
show_argument-requires-clause-whole c = whole_at (names_of c.args.moment.now.scope.now) c.args.arguments.now c.loop-argument.argument-index c.argument-item.result c.argument-item.is c.loop-argument-test.true c.requires.whole
