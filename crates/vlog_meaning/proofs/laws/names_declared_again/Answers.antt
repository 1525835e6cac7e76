use Rattle.vlog_meaning.proofs.Redeclared.{last_counts, restores, signals_stay}
use Rattle.vlog_meaning.proofs.laws.names_declared_again.Goals as goal

pub returns-clause-last : goal.returns-clause-last
returns-clause-last c = last_counts

pub returns-clause-restored : goal.returns-clause-restored
returns-clause-restored c = restores

pub returns-clause-signals : goal.returns-clause-signals
returns-clause-signals c = signals_stay
