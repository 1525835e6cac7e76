use Rattle.tb_wired.proofs.Common.{List, sym, subst, All, names_of, NetNode, Ready, Loop, wiring, IsSided, IsNetted}
use Rattle.tb_wired.proofs.Placed.{loop_inside}
use Rattle.tb_wired.proofs.Wiring.{are_sided, are_wired}
use Rattle.tb_wired.proofs.wired.wire.Goals as goal

pub new-requires : goal.new-requires
new-requires c = subst (λ (l : List NetNode). All (IsSided (names_of c.args.scope.now)) l) (sym c.in_ok-nodes.ensures) (are_sided (names_of c.args.scope.now) c.args.outputs.now c.args.items.now c.requires.sized c.requires.faultless)

pub place_of-requires : goal.place_of-requires
place_of-requires c = loop_inside (wiring (names_of c.args.scope.now) c.args.inputs.now c.args.outputs.now) c.args.items.now c.in-Loop.node (subst (λ (l : List NetNode). IsNetted (wiring (names_of c.args.scope.now) c.args.inputs.now c.args.outputs.now) l (Loop c.in-Loop.node)) c.in_ok-nodes.ensures (subst (IsNetted (wiring (names_of c.args.scope.now) c.args.inputs.now c.args.outputs.now) c.in_ok-nodes.nodes.items) c.in-Loop.is c.in_ok-nets.ensures))

pub returns-in-Ready : goal.returns-in-Ready
returns-in-Ready c = are_wired (names_of c.args.scope.now) c.args.inputs.now c.args.outputs.now c.args.items.now c.in-Ready.nets c.requires.sized c.requires.held c.requires.faultless (subst (λ (l : List NetNode). IsNetted (wiring (names_of c.args.scope.now) c.args.inputs.now c.args.outputs.now) l (Ready c.in-Ready.nets)) c.in_ok-nodes.ensures (subst (IsNetted (wiring (names_of c.args.scope.now) c.args.inputs.now c.args.outputs.now) c.in_ok-nodes.nodes.items) c.in-Ready.is c.in_ok-nets.ensures))
