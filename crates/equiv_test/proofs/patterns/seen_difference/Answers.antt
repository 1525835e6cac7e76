use Rattle.equiv_test.proofs.Telling.{found-seen}
use Rattle.equiv_test.proofs.patterns.seen_difference.Goals as goal

pub returns-in-Some-clause-seen : goal.returns-in-Some-clause-seen
returns-in-Some-clause-seen c = found-seen c.args.original.now.plan.raw c.args.mutant.now.plan.raw _ c.difference_at.result c.difference_at.ensures.found
