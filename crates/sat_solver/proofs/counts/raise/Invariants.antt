use Rattle.sat_solver.proofs.Common.{◌≡◌, ℕ, ◌+◌, length, take, get_or, nat_eq, count_by}
use Rattle.sat_solver.proofs.counts.raise.Given as goal

abbrev pub invariant-loop-number : goal.invariant-loop-number
invariant-loop-number l = (length l.table.items ≡ length l.initial.table.items) × ((n : ℕ) → get_or l.table.items n 0 ≡ get_or l.initial.table.items n 0 + count_by (nat_eq n) (take l.number-index l.list))
