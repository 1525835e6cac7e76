use Rattle.std.proofs.Common.{◌≡◌, ◌∷◌, take}
use Rattle.mcy_keeper.specs.Books.{second_number}
use Rattle.mcy_keeper.proofs.formats.in_second.Given as goal

abbrev pub invariant-loop-item : goal.invariant-loop-item
invariant-loop-item l = l.items.items ≡ second_number ∷ take l.item-index l.more
