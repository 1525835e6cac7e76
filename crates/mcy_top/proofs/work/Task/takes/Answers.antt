use Rattle.mcy_top.proofs.Limiting.{init_refused, init_taken, run_refused, run_taken}
use Rattle.mcy_top.proofs.work.Task.takes.Goals as goal

pub returns-in-Init-clause-taken : goal.returns-in-Init-clause-taken
returns-in-Init-clause-taken c = init_taken c.args.command c.args.goal.now c.args.self.now.prepared.now c.args.loaded.now c.init_takes.result c.in-Init.is c.init_takes.ensures.taken

pub returns-in-Init-clause-refused : goal.returns-in-Init-clause-refused
returns-in-Init-clause-refused c = init_refused c.args.command c.args.goal.now c.args.self.now.prepared.now c.args.loaded.now c.init_takes.result c.in-Init.is c.init_takes.ensures.refused

pub returns-in_default-clause-taken : goal.returns-in_default-clause-taken
returns-in_default-clause-taken c = run_taken c.args.command c.args.goal.now c.args.self.now.prepared.now c.args.loaded.now c.run_takes.result c.requires.opens c.in_default.not-Init c.run_takes.ensures.taken

pub returns-in_default-clause-refused : goal.returns-in_default-clause-refused
returns-in_default-clause-refused c = run_refused c.args.command c.args.goal.now c.args.self.now.prepared.now c.args.loaded.now c.run_takes.result c.requires.opens c.in_default.not-Init c.run_takes.ensures.refused
