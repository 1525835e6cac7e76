use Rattle.cycle_sim.proofs.Common.{◌≡◌, ℕ, ◌≤◌, [], ◌∷◌, get_or, sym, ◌∙◌, ap, subst, Bit, Net, times, Place, place_of}
use Rattle.cycle_sim.proofs.Placed.{times-self}
use Rattle.cycle_sim.proofs.Growing.{one-bit}
use Rattle.cycle_sim.proofs.wiring.source_of.Goals as goal

counted : (bit : Bit) (n : ℕ) → bit ≡ Net n → 1 ≤ times n (bit ∷ [])
counted bit n is = subst (λ (b : Bit). 1 ≤ times n (b ∷ [])) (sym is) (times-self n)

pub bounds-places-net : goal.bounds-places-net
bounds-places-net c = c.requires c.in-Net.net (counted c.args.bit c.in-Net.net c.in-Net.is)

pub returns-in-Net : goal.returns-in-Net
returns-in-Net c = λ drivers placed.
    let n : ℕ = c.in-Net.net in
    let place : Place = place_of c.args.places.now n in
    one-bit (get_or drivers place.driver []) place.bit (Net n) (placed n (counted c.args.bit n c.in-Net.is)) ∙ ap (λ (b : Bit). b ∷ []) (sym c.in-Net.is)
