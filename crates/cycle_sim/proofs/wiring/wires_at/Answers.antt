use Rattle.cycle_sim.proofs.Common.{◌≡◌, ℕ, ◌<◌, ◌≤◌, List, [], length, get_or, ◌∙◌, subst, arith, get_or_read, Bit, times, times_at}
use Rattle.cycle_sim.proofs.Placed.{times_at-at}
use Rattle.cycle_sim.proofs.Reading.{wired-more}
use Rattle.cycle_sim.proofs.wiring.wires_at.Goals as goal

port-is : (ports : List (List Bit)) (i : ℕ) (bits item : List Bit) → i < length ports → bits ≡ item → item ≡ get_or ports i item → bits ≡ get_or ports i []
port-is ports i bits item inside same is = same ∙ get_or_read ports i item inside is []

among : (ports : List (List Bit)) (i : ℕ) (bits : List Bit) (n : ℕ) → i < length ports → bits ≡ get_or ports i [] → 1 ≤ times n bits → 1 ≤ times_at n ports
among ports i bits n inside is some =
    let here : 1 ≤ times n (get_or ports i []) = subst (λ (b : List Bit). 1 ≤ times n b) is some in
    let all = times_at-at n ports i [] inside in
    omega (arith, here, all)

pub wires_of-requires-clause-below : goal.wires_of-requires-clause-below
wires_of-requires-clause-below c = λ n some.
    let is = port-is c.args.ports.now c.loop-port.port-index c.as_slice.result.now c.port-item.result c.loop-port-test.true c.as_slice.ensures c.port-item.is in
    c.requires.below n (among c.args.ports.now c.loop-port.port-index c.as_slice.result.now n c.loop-port-test.true is some)

pub loop-port-preserved : goal.loop-port-preserved
loop-port-preserved c = λ drivers placed widths_are.
    let ports : List (List Bit) = c.args.ports.now in
    let i : ℕ = c.loop-port.port-index in
    let is = port-is ports i c.as_slice.result.now c.port-item.result c.loop-port-test.true c.as_slice.ensures c.port-item.is in
    wired-more drivers c.loop-port.wires.items c.push.new.self.items ports i c.in_ok-wires_of.field-0 c.as_slice.result.now (c.loop-port.invariant drivers placed widths_are) c.in_ok-push.ensures.items c.loop-port-test.true is (c.in_ok-wires_of.ensures drivers (λ n some. placed n (among ports i c.as_slice.result.now n c.loop-port-test.true is some)) widths_are)
