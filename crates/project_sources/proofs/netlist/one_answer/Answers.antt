use Rattle.project_sources.proofs.OneAnswer.{faults_are_one, netlist_is_one, netlist_of, netlist_without_fault}
use Rattle.project_sources.proofs.netlist.one_answer.Goals as goal

pub returns-clause-netlists : goal.returns-clause-netlists
returns-clause-netlists c = netlist_is_one

pub returns-clause-told : goal.returns-clause-told
returns-clause-told c = netlist_of

pub returns-clause-either : goal.returns-clause-either
returns-clause-either c = netlist_without_fault

pub returns-clause-faults : goal.returns-clause-faults
returns-clause-faults c = faults_are_one
