use Rattle.vlog_refusals.proofs.Common.{◌≡◌, take, flat_map, least, names_of, labels_in, wrong}
use Rattle.vlog_refusals.proofs.cases.labels_wrong_in.Given as goal

abbrev pub invariant-loop-item : goal.invariant-loop-item
invariant-loop-item g l = l.found ≡ least (flat_map (wrong g.P.Purpose.unsupported (names_of l.scope)) (flat_map labels_in (take l.item-index l.items)))
