use Rattle.seen_tokens.proofs.BareTrees.{parsed_bare, fault_bare}
use Rattle.seen_tokens.proofs.laws.grammar_goes_by_what_is_seen.Goals as goal

pub returns-clause-modules : goal.returns-clause-modules
returns-clause-modules c = parsed_bare

pub returns-clause-faults : goal.returns-clause-faults
returns-clause-faults c = fault_bare
