use Rattle.hier_once.proofs.OneAnswer.{netlist_cells, no_refusal, one_answer, one_netlist, one_refusal}
use Rattle.hier_once.proofs.laws.sources_have_one_answer.Goals as goal

pub returns-clause-answer : goal.returns-clause-answer
returns-clause-answer c = one_answer

pub returns-clause-netlist : goal.returns-clause-netlist
returns-clause-netlist c = one_netlist

pub returns-clause-either : goal.returns-clause-either
returns-clause-either c = no_refusal

pub returns-clause-refusal : goal.returns-clause-refusal
returns-clause-refusal c = one_refusal

pub returns-clause-cells : goal.returns-clause-cells
returns-clause-cells c = netlist_cells
