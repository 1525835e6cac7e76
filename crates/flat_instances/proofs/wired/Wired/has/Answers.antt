use Rattle.flat_instances.proofs.Common.{◌∙◌, ap, List, is_among}
use Rattle.vlog_syntax.specs.declared.identifier.Identifier.{Identifier}
use Rattle.flat_instances.proofs.Wiring.{among_ports}
use Rattle.flat_instances.proofs.wired.Wired.has.Goals as goal

pub returns : goal.returns
returns c = c.has.ensures ∙ ap (λ (l : List Identifier). is_among l c.args.name.now) c.args.self.now.listed ∙ among_ports c.args.self.now.wires.now c.args.name.now
