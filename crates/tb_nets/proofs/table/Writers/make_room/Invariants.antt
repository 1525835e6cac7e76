use Rattle.tb_nets.proofs.Common.{◌≡◌, ℕ, ◌+◌, ◌-◌, [], vec_len, slice_index_or, rows_of}
use Rattle.tb_nets.proofs.table.Writers.make_room.Given as goal

abbrev pub invariant-loop-alloc : goal.invariant-loop-alloc
invariant-loop-alloc l = (n : ℕ) → slice_index_or (rows_of l.self) n [] ≡ slice_index_or (rows_of l.initial.self) n []

abbrev pub decreases-loop-alloc : goal.decreases-loop-alloc
decreases-loop-alloc l = l.number + 1 - vec_len l.self.rows
