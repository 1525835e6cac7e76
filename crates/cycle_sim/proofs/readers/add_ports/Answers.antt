use Rattle.cycle_sim.proofs.Common.{◌≡◌, ℕ, ◌<◌, ◌≤◌, List, [], length, get_or, ◌∙◌, subst, arith, get_or_read, take_all, Bit, times, times_at, AreAdded}
use Rattle.cycle_sim.proofs.Placed.{times_at-at}
use Rattle.cycle_sim.proofs.ReaderLists.{added-none, ports-more}
use Rattle.cycle_sim.proofs.readers.add_ports.Goals as goal

port-is : (ports : List (List Bit)) (i : ℕ) (bits item : List Bit) → i < length ports → bits ≡ item → item ≡ get_or ports i item → bits ≡ get_or ports i []
port-is ports i bits item inside same is = same ∙ get_or_read ports i item inside is []

among : (ports : List (List Bit)) (i : ℕ) (bits : List Bit) (n : ℕ) → i < length ports → bits ≡ get_or ports i [] → 1 ≤ times n bits → 1 ≤ times_at n ports
among ports i bits n inside is some =
    let here : 1 ≤ times n (get_or ports i []) = subst (λ (b : List Bit). 1 ≤ times n b) is some in
    let all = times_at-at n ports i [] inside in
    omega (arith, here, all)

pub loop-port-init : goal.loop-port-init
loop-port-init c = added-none (λ n. 1 ≤ 0) c.args.places.now c.args.place c.args.readers.now.items (λ n h. omega (arith, h))

pub add_bits-requires-clause-below : goal.add_bits-requires-clause-below
add_bits-requires-clause-below c = λ n some.
    let is = port-is c.args.ports.now c.loop-port.port-index c.as_slice.result.now c.port-item.result c.loop-port-test.true c.as_slice.ensures c.port-item.is in
    c.requires.below n (among c.args.ports.now c.loop-port.port-index c.as_slice.result.now n c.loop-port-test.true is some)

pub add_bits-requires-clause-inside : goal.add_bits-requires-clause-inside
add_bits-requires-clause-inside c = λ n some.
    let is = port-is c.args.ports.now c.loop-port.port-index c.as_slice.result.now c.port-item.result c.loop-port-test.true c.as_slice.ensures c.port-item.is in
    let inside = c.requires.inside n (among c.args.ports.now c.loop-port.port-index c.as_slice.result.now n c.loop-port-test.true is some) in
    let long = c.loop-port.invariant.long in
    omega (arith, inside, long)

pub loop-port-preserved : goal.loop-port-preserved
loop-port-preserved c =
    let is = port-is c.args.ports.now c.loop-port.port-index c.as_slice.result.now c.port-item.result c.loop-port-test.true c.as_slice.ensures c.port-item.is in
    ports-more c.args.places.now c.args.place c.args.ports.now c.loop-port.port-index c.as_slice.result.now c.args.readers.now.items c.loop-port.readers.items c.add_bits.new.readers.items c.loop-port.invariant c.loop-port-test.true is c.in_ok-add_bits.ensures

pub returns : goal.returns
returns c = subst (λ (l : List (List Bit)). AreAdded (λ n. 1 ≤ times_at n l) c.args.places.now c.args.place c.args.readers.now.items c.loop-port.readers.items) (take_all c.loop-port.port-index c.args.ports.now c.loop-port-test.false) c.loop-port.invariant
