use Rattle.result_book.proofs.Common.{◌≡◌, is_round}
use Rattle.result_book.proofs.rounds.is_round.Given as goal

-- the digits that are left say whether the number is round
abbrev pub invariant-loop-rest : goal.invariant-loop-rest
invariant-loop-rest l = is_round l.rest ≡ is_round l.number

abbrev pub decreases-loop-rest : goal.decreases-loop-rest
decreases-loop-rest l = l.rest
