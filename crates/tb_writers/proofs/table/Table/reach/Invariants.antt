use Rattle.tb_writers.proofs.Common.{◌≡◌, ◌+◌, ◌-◌, length, bits_of}
use Rattle.tb_writers.proofs.table.Table.reach.Given as goal

abbrev pub invariant-loop-self : goal.invariant-loop-self
invariant-loop-self l = bits_of l.self-inside.masks.items ≡ bits_of l.initial.self-inside.masks.items

abbrev pub decreases-loop-self : goal.decreases-loop-self
decreases-loop-self l = l.number + 1 - length l.self-inside.masks.items
