use Rattle.flat_clocks.proofs.Common.{ap, ◌∙◌, None, Names, names_of, with_name}
use Rattle.flat_clocks.proofs.Hiding.{declared_again}
use Rattle.flat_clocks.proofs.names.with_name.Goals as goal

pub returns-in-Ok : goal.returns-in-Ok
returns-in-Ok c = declared_again (names_of c.args.variables.now) (names_of c.hide.new.self) (names_of c.declare.new.self) c.args.name.now _ (c.hide.ensures ∙ ap (λ (n : Names). with_name n c.args.name.now None) (ap names_of c.in_ok-more.ensures)) c.in-Ok.ensures.declared
