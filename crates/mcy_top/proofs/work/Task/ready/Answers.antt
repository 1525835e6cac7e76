use Rattle.mcy_top.proofs.Common.{◌∙◌, inr, sym, err_from_is_err_and}
use Rattle.mcy_top.proofs.Working.{runs_not_init}
use Rattle.mcy_top.proofs.work.Task.ready.Goals as goal

-- the book is refused
pub returns-in_err-state-clause-refused : goal.returns-in_err-state-clause-refused
returns-in_err-state-clause-refused c =
    let p = err_from_is_err_and c.from_residual.result c.from_residual.ensures.1 in
    rw (p.1, p.2) (λ command runs. c.in_err-state.ensures.refused command c.args.goal.now (runs_not_init command runs))

-- or the campaign lacks a mutation that is named
pub returns-in-Some-clause-refused : goal.returns-in-Some-clause-refused
returns-in-Some-clause-refused c command runs = (runs, inr c.in_ok-state.ensures.form, sym c.lacking.ensures ∙ c.in-Some.is)
