use Rattle.seen_tokens.proofs.BareFiles.{carried_out_bare, refused_bare}
use Rattle.seen_tokens.proofs.laws.directives_go_by_what_is_seen.Goals as goal

pub returns-clause-given : goal.returns-clause-given
returns-clause-given c = carried_out_bare

pub returns-clause-refused : goal.returns-clause-refused
returns-clause-refused c = refused_bare
