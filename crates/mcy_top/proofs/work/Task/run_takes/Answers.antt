use Rattle.mcy_top.proofs.Common.{◌∙◌, inl, inr, sym}
use Rattle.mcy_top.proofs.work.Task.run_takes.Goals as goal

-- the empty book
pub returns-in-None-clause-taken : goal.returns-in-None-clause-taken
returns-in-None-clause-taken c = (inl (c.is_blank.ensures.0 c.if-is_blank.true), sym c.lacking.ensures ∙ c.in-None.is)

pub returns-in-Some-clause-refused : goal.returns-in-Some-clause-refused
returns-in-Some-clause-refused c command runs = (runs, inl (c.is_blank.ensures.0 c.if-is_blank.true), sym c.lacking.ensures ∙ c.in-Some.is)

-- one that has no meta
pub returns-then-is_empty-clause-refused : goal.returns-then-is_empty-clause-refused
returns-then-is_empty-clause-refused c command runs = c.stray.ensures command c.args.goal.now c.args.self.now.prepared.now

-- a begun one
pub returns-in-Ok-clause-taken : goal.returns-in-Ok-clause-taken
returns-in-Ok-clause-taken c = (inr c.in-Ok.ensures.form, c.in-Ok.ensures.named)

pub returns-clause-refused : goal.returns-clause-refused
returns-clause-refused c command runs = c.in-Err.ensures.refused command runs
