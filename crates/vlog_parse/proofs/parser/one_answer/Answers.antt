use Rattle.vlog_parse.proofs.OneAnswer.{one_fault}
use Rattle.vlog_parse.proofs.Parses.{no_fault, one_meaning}
use Rattle.vlog_parse.proofs.parser.one_answer.Goals as goal

pub returns-clause-modules : goal.returns-clause-modules
returns-clause-modules c = one_meaning

pub returns-clause-either : goal.returns-clause-either
returns-clause-either c = no_fault

pub returns-clause-faults : goal.returns-clause-faults
returns-clause-faults c = one_fault
