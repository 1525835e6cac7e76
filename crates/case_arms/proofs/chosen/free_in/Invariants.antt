use Rattle.case_arms.proofs.Common.{◌≡◌, take, Selection, NoneFree}
use Rattle.case_arms.proofs.chosen.free_in.Given as goal

abbrev pub invariant-loop-place : goal.invariant-loop-place
invariant-loop-place l = (c : Selection) → c.kind ≡ l.fn.kind → c.width ≡ l.fn.width → NoneFree c (take l.place l.items)
