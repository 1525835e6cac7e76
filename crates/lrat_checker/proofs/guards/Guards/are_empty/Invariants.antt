use Rattle.lrat_checker.proofs.Common.{◌≡◌, [], take, All, place_of, list_at, lists_of}
use Rattle.lrat_checker.proofs.guards.Guards.are_empty.Given as goal

abbrev pub invariant-loop-l : goal.invariant-loop-l
invariant-loop-l l = All (λ k. list_at (lists_of l.self) (place_of k) ≡ []) (take l.l-index l.lits)
