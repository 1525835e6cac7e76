use Rattle.project_tester.proofs.Common.{sym, subst, asked_in, word_in, TellsAttempt}
use Rattle.project_tester.proofs.Ending.{attempt_told}
use Rattle.project_tester.proofs.job.ProjectJob.attempt.Goals as goal

pub returns-clause-given : goal.returns-clause-given
returns-clause-given c p is =
    subst (TellsAttempt p (asked_in c.args.self.now) (word_in c.args.self.now.work)) (sym c.attempt.ensures) (attempt_told p (asked_in c.args.self.now) c.args.self.now.work is)
