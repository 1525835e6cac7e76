use Rattle.vlog_meaning.proofs.Refusals.{pair_first}
use Rattle.vlog_meaning.proofs.Firsts.{pair_of}
use Rattle.vlog_meaning.proofs.fault.earlier.Goals as goal

pub returns-clause-joined : goal.returns-clause-joined
returns-clause-joined c = λ xs ys e k. pair_first xs ys c.args.f c.args.g c.sooner.result c.sooner.ensures e k

pub returns-clause-places : goal.returns-clause-places
returns-clause-places c = λ cause xs ys e k. pair_of cause xs ys c.args.f c.args.g c.sooner.result c.sooner.ensures e k
