use Rattle.cycle_sim.proofs.Common.{◌≡◌, ℕ, ◌<◌, ◌≤◌, false, List, [], ◌∷◌, length, get_or, sym, ◌∙◌, subst, refl, arith, length-set, Bit, Fixed, Net, times, AreBelow}
use Rattle.cycle_sim.proofs.Placed.{marked-net, marked-constant, times-self, times-at}
use Rattle.cycle_sim.proofs.places.mark.Goals.{in-Net, in-Fixed}
use Rattle.cycle_sim.proofs.places.mark.Goals as goal

net-below : (limit : ℕ) (bits : List Bit) (i n : ℕ) → AreBelow limit bits → i < length bits → get_or bits i (Fixed false) ≡ Net n → n < limit
net-below limit bits i n below inside is =
    let here : 1 ≤ times n (get_or bits i (Fixed false) ∷ []) = subst (λ (b : Bit). 1 ≤ times n (b ∷ [])) (sym is) (times-self n) in
    let all = times-at n bits i (Fixed false) inside in
    below n (omega (arith, here, all))

pub index_mut-requires : goal.index_mut-requires
index_mut-requires c =
    let inside = net-below (length c.args.places.now.items) c.args.bits.now c.loop-i.i c.in-Net.net c.requires.below c.loop-i-test.true c.in-Net.is in
    omega (arith, inside, c.loop-i.invariant.long, c.loop-i.places.ok.0)

pub loop-i-preserved : goal.loop-i-preserved
loop-i-preserved c = elim c.match-bits-i.branch [
  | in-Fixed w ↦ rw w.places-is (record {
    long = c.loop-i.invariant.long;
    marked = marked-constant c.args.driver c.args.bits.now c.args.bits.now c.args.places.now.items c.loop-i.places.items c.loop-i.i w.in-Fixed.field-0 (Fixed false) c.loop-i.invariant.marked c.loop-i-test.true w.in-Fixed.is;
  })
  | in-Net w ↦
      (let inside = net-below (length c.args.places.now.items) c.args.bits.now c.loop-i.i w.in-Net.net c.requires.below c.loop-i-test.true w.in-Net.is in
      rw w.places-is (record {
        long = length-set c.loop-i.places.items w.in-Net.net (record { driver = c.args.driver; bit = c.loop-i.i }) ∙ c.loop-i.invariant.long;
        marked = marked-net c.args.driver c.args.bits.now c.args.bits.now c.args.places.now.items c.loop-i.places.items c.loop-i.i w.in-Net.net (Fixed false) c.loop-i.invariant.marked c.loop-i-test.true refl w.in-Net.is (omega (arith, inside, c.loop-i.invariant.long));
      }))
]
