use Rattle.tb_wired.proofs.Common.{◌≡◌, take, places_of}
use Rattle.tb_wired.proofs.places.places_of.Given as goal

abbrev pub invariant-loop-item : goal.invariant-loop-item
invariant-loop-item l = l.places.items ≡ places_of (take l.item-index l.items)
