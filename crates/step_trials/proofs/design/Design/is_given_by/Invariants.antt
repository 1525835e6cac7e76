use Rattle.step_trials.proofs.Common.{ℕ, [], ◌<◌, get_or, design, GivesAt}
use Rattle.step_trials.proofs.design.Design.is_given_by.Given as goal

abbrev pub invariant-loop-number : goal.invariant-loop-number
invariant-loop-number l = (n : ℕ) → n < l.number → GivesAt (design l.other.raw) n (get_or l.self.given n [])
