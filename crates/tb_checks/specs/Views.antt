-- What the code's rules stand for.
use Rattle.std.specs.Prelude.{option_copied}
use Rattle.vlog_meaning.specs.Scopes.{names_of}
use Rattle.tb_checks.specs.declared.statements.StatementRules.{StatementRules}
use Rattle.tb_checks.specs.Statements.{Rules}

abbrev pub rules_in : StatementRules → Rules
rules_in r = record { names = names_of r.scope.now; clock = option_copied r.clock; may_wait = r.may_wait }
