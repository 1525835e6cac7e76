use Rattle.project_options.proofs.Common.{lit<, file_part, lines_part}
use Rattle.project_options.proofs.Cuts.{last_cut, no_last}
use Rattle.project_options.proofs.ranges.split_file.Goals as goal

pub returns-in-Some-clause-file : goal.returns-in-Some-clause-file
unfolding file_part
returns-in-Some-clause-file c = (last_cut 58 c.args.word.now _ _ (lit< tt) c.in-Some.ensures.cases).0

pub returns-in-Some-clause-lines : goal.returns-in-Some-clause-lines
unfolding lines_part
returns-in-Some-clause-lines c = (last_cut 58 c.args.word.now _ _ (lit< tt) c.in-Some.ensures.cases).1

pub returns-in-None-clause-file : goal.returns-in-None-clause-file
unfolding file_part
returns-in-None-clause-file c = (no_last 58 c.args.word.now (lit< tt) c.in-None.ensures.cases).0

pub returns-in-None-clause-lines : goal.returns-in-None-clause-lines
unfolding lines_part
returns-in-None-clause-lines c = (no_last 58 c.args.word.now (lit< tt) c.in-None.ensures.cases).1
