use Rattle.result_book.proofs.Common.{◌≡◌, map, take, bound_of}
use Rattle.result_book.proofs.bounds.bounds_of.Given as goal

-- the bounds so far are those of the first rows
abbrev pub invariant-loop-row : goal.invariant-loop-row
invariant-loop-row l = l.bounds.items ≡ map (bound_of l.campaign) (take l.row-index l.row-items)
