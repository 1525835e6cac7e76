use Rattle.flat_runs.proofs.Worked.{successors_are_shown, counter_counts, start_value_stays, contradiction_has_no_run, follower_follows}
use Rattle.flat_runs.proofs.examples.runs_of_examples.Goals as goal

pub returns-clause-assign : goal.returns-clause-assign
returns-clause-assign c = successors_are_shown

pub returns-clause-register : goal.returns-clause-register
returns-clause-register c = counter_counts

pub returns-clause-start : goal.returns-clause-start
returns-clause-start c = start_value_stays

pub returns-clause-contradiction : goal.returns-clause-contradiction
returns-clause-contradiction c = contradiction_has_no_run

pub returns-clause-combinational : goal.returns-clause-combinational
returns-clause-combinational c = follower_follows
