use Rattle.source_trees.proofs.OneAnswer.{faults_are_one, meanings_are_one, read_meant, read_without_fault}
use Rattle.source_trees.proofs.reading.one_answer.Goals as goal

pub returns-clause-meant : goal.returns-clause-meant
returns-clause-meant c = read_meant

pub returns-clause-modules : goal.returns-clause-modules
returns-clause-modules c = meanings_are_one

pub returns-clause-either : goal.returns-clause-either
returns-clause-either c = read_without_fault

pub returns-clause-faults : goal.returns-clause-faults
returns-clause-faults c = faults_are_one
