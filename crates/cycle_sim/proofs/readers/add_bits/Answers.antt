use Rattle.cycle_sim.proofs.Common.{◌≤◌, false, List, subst, arith, take_all, Bit, Fixed, times, AreAdded}
use Rattle.cycle_sim.proofs.ReaderLists.{added-none, net-some, bits-net, bits-constant}
use Rattle.cycle_sim.proofs.readers.add_bits.Goals.{in-Fixed, in-Net+in_ok-add_net-in-Net}
use Rattle.cycle_sim.proofs.readers.add_bits.Goals as goal

pub loop-bit-init : goal.loop-bit-init
loop-bit-init c = added-none (λ n. 1 ≤ 0) c.args.places.now c.args.place c.args.readers.now.items (λ n h. omega (arith, h))

pub add_net-requires-clause-below : goal.add_net-requires-clause-below
add_net-requires-clause-below c = c.requires.below c.in-Net.net (net-some c.args.bits.now c.loop-bit.bit-index c.in-Net.net (Fixed false) c.loop-bit-test.true c.in-Net.is)

pub add_net-requires-clause-inside : goal.add_net-requires-clause-inside
add_net-requires-clause-inside c =
    let inside = c.requires.inside c.in-Net.net (net-some c.args.bits.now c.loop-bit.bit-index c.in-Net.net (Fixed false) c.loop-bit-test.true c.in-Net.is) in
    let long = c.loop-bit.invariant.long in
    omega (arith, inside, long)

pub loop-bit-preserved : goal.loop-bit-preserved
loop-bit-preserved c = elim c.match-bit.branch [
  | in-Fixed w ↦ rw w.readers-is (bits-constant c.args.places.now c.args.place c.args.bits.now c.loop-bit.bit-index w.in-Fixed.field-0 (Fixed false) c.args.readers.now.items c.loop-bit.readers.items c.loop-bit.invariant c.loop-bit-test.true w.in-Fixed.is)
  | in-Net+in_ok-add_net-in-Net w ↦ rw w.readers-is (bits-net c.args.places.now c.args.place c.args.bits.now c.loop-bit.bit-index w.in-Net.net (Fixed false) c.args.readers.now.items c.loop-bit.readers.items w.add_net.new.readers.items c.loop-bit.invariant c.loop-bit-test.true w.in-Net.is w.in_ok-add_net-in-Net.ensures)
]

pub returns : goal.returns
returns c = subst (λ (l : List Bit). AreAdded (λ n. 1 ≤ times n l) c.args.places.now c.args.place c.args.readers.now.items c.loop-bit.readers.items) (take_all c.loop-bit.bit-index c.args.bits.now c.loop-bit-test.false) c.loop-bit.invariant
