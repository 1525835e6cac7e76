use Rattle.project_options.proofs.Common.{lit<, back_number, front_number}
use Rattle.project_options.proofs.Cuts.{no_first}
use Rattle.project_options.proofs.ranges.split_numbers.Goals as goal

pub returns-in-Some-clause-front : goal.returns-in-Some-clause-front
unfolding front_number
returns-in-Some-clause-front c = (c.in-Some.ensures.byte (lit< tt) (λ w o found. found)).0

pub returns-in-Some-clause-back : goal.returns-in-Some-clause-back
unfolding back_number
returns-in-Some-clause-back c = (c.in-Some.ensures.byte (lit< tt) (λ w o found. found)).1

pub returns-in-None-clause-front : goal.returns-in-None-clause-front
unfolding front_number
returns-in-None-clause-front c = (no_first 45 c.args.lines.now (c.in-None.ensures.byte (lit< tt) (λ w o found. found))).0

pub returns-in-None-clause-back : goal.returns-in-None-clause-back
unfolding back_number
returns-in-None-clause-back c = (no_first 45 c.args.lines.now (c.in-None.ensures.byte (lit< tt) (λ w o found. found))).1
