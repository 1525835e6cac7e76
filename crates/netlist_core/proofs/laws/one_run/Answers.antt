use Rattle.netlist_core.proofs.Solved.{has-one-run, same-shown, same-taken, settles}
use Rattle.netlist_core.proofs.Common.{length, Reads}
use Rattle.net_order.proofs.Unique.{orders-one}
use Rattle.netlist_core.proofs.laws.one_run.Goals as goal

pub returns-clause-order : goal.returns-clause-order
returns-clause-order c = λ netlist xs ys. orders-one (length netlist.cells) (Reads netlist) xs ys

pub returns-clause-settles : goal.returns-clause-settles
returns-clause-settles c = λ plan sight sound causal nets inputs state fit_in fit_state. settles plan.raw sound.formed sound.connected plan.order sound.order sight causal nets inputs state fit_in fit_state

pub returns-clause-run : goal.returns-clause-run
returns-clause-run c = λ plan sight sound causal state inputs fit all. has-one-run plan.raw sound.formed sound.connected plan.order sound.order sight causal state inputs fit all

pub returns-clause-answer : goal.returns-clause-answer
returns-clause-answer c = λ plan sight sound causal inputs state x y in_x in_y. (
  same-shown plan.raw sound.formed sound.connected plan.order sound.order sight causal inputs state x y in_x in_y,
  same-taken plan.raw sound.formed sound.connected plan.order sound.order sight causal inputs state x y in_x in_y,
)
