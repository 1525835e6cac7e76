use Rattle.vlog_meaning.specs.Scopes.{names_of}
use Rattle.tb_tasks.proofs.Whole.{whole_from}
use Rattle.tb_tasks.proofs.format.show_format.Goals as goal

pub show_rest-requires-clause-whole : goal.show_rest-requires-clause-whole
show_rest-requires-clause-whole c = whole_from (names_of c.args.moment.now.scope.now) c.in-Some-2.taken c.args.arguments.now c.requires.whole
