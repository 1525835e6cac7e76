use Rattle.project_tester.proofs.Common.{sym, ap, ℕ, Some, err_from_is_err_and, asked_in}
use Rattle.project_tester.proofs.Ending.{word_given}
use Rattle.project_tester.proofs.Works.{can_go_on}
use Rattle.project_tester.proofs.tester.ProjectTesterTester.turn.Goals as goal

pub go_on-requires : goal.go_on-requires
go_on-requires c = record { going = can_go_on c.args.self.now (asked_in c.args.job.now) c.args.job.now.work c.requires.mine c.requires.going }

-- no word yet
pub returns-in-None-clause-mine : goal.returns-in-None-clause-mine
returns-in-None-clause-mine c = rw c.in-None.is at (c.in_ok-go_on.ensures.kept c.args.self.now (asked_in c.args.job.now) c.requires.mine)

pub returns-in-None-clause-told : goal.returns-in-None-clause-told
returns-in-None-clause-told c =
    let turned = rw c.in-None.is at c.in_ok-go_on.ensures.turned in turned.0

pub returns-in-None-clause-left : goal.returns-in-None-clause-left
returns-in-None-clause-left c none =
    let turned = rw c.in-None.is at c.in_ok-go_on.ensures.turned in turned.1

-- its word
pub returns-in-Some-clause-mine : goal.returns-in-Some-clause-mine
returns-in-Some-clause-mine c = rw c.in-Some.is at (c.in_ok-go_on.ensures.kept c.args.self.now (asked_in c.args.job.now) c.requires.mine)

pub returns-in-Some-clause-told : goal.returns-in-Some-clause-told
returns-in-Some-clause-told c = ap (λ (n : ℕ). Some n) (sym c.code-word.ensures)

pub returns-in-Some-clause-gives : goal.returns-in-Some-clause-gives
returns-in-Some-clause-gives c =
    let has = rw c.in-Some.is at (c.in_ok-go_on.ensures.kept c.args.self.now (asked_in c.args.job.now) c.requires.mine) in
    word_given c.args.self.now (asked_in c.args.job.now) c.in-Some.ended c.code-word.result c.prepared-prepared.ensures.plan has c.code-word.ensures

pub returns-in-Some-clause-left : goal.returns-in-Some-clause-left
returns-in-Some-clause-left c none = cc

-- no memory
pub returns-in_err-go_on-clause-mine : goal.returns-in_err-go_on-clause-mine
returns-in_err-go_on-clause-mine c = c.in_err-go_on.ensures.kept c.args.self.now (asked_in c.args.job.now) c.requires.mine

pub returns-in_err-go_on-clause-told : goal.returns-in_err-go_on-clause-told
returns-in_err-go_on-clause-told c =
    let p = err_from_is_err_and c.from_residual.result c.from_residual.ensures.1 in rw p.1 c.in_err-go_on.ensures.turned
