use Rattle.vlog_refusals.proofs.Common.{◌≡◌, take, flat_map, DivideByZero, least_at, names_of, labels_in, zeros_at}
use Rattle.vlog_refusals.proofs.cases.labels_zero_in.Given as goal

abbrev pub invariant-loop-item : goal.invariant-loop-item
invariant-loop-item l = l.found ≡ least_at DivideByZero (flat_map (zeros_at (names_of l.scope) l.fn.size) (flat_map labels_in (take l.item-index l.items)))
