use Rattle.vlog_refusals.proofs.Firsts.{first_both}
use Rattle.vlog_refusals.proofs.precedence.earlier.Goals as goal

pub returns-clause-joined : goal.returns-clause-joined
returns-clause-joined g c = λ xs ys i j. rw c.sooner.ensures (first_both g.R.Placed.place c.args.f c.args.g xs ys i j)
