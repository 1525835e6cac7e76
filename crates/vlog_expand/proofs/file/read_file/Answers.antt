use Rattle.vlog_expand.proofs.Common.{◌≡◌, length, rules, definitions_of}
use Rattle.vlog_expand.proofs.Coming.{comes-end}
use Rattle.vlog_expand.proofs.file.read_file.Goals as goal

pub returns-clause-ok : goal.returns-clause-ok
returns-clause-ok c =
    let none : length c.loop-rest.rest.tokens.now ≡ 0 = search rules in
    comes-end _ c.args.end _ _ c.loop-rest.output.given.items (definitions_of c.loop-rest.reading.macros) c.loop-rest.reading.conditions.items _ c.loop-rest.output.left c.loop-rest.invariant none
