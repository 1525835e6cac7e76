use Rattle.case_arms.proofs.Common.{◌≡◌, has_all}
use Rattle.case_arms.proofs.named.has_each.Given as goal

abbrev pub invariant-loop-number : goal.invariant-loop-number
invariant-loop-number l = l.found ≡ has_all l.values l.number
