use Rattle.made_project.proofs.design.add_net.Goals as goal

pub returns : goal.returns
returns c = rw c.operator_text-operator.ensures at c.writeln.ensures.bytes
