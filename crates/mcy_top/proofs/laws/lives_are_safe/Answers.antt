use Rattle.mcy_top.proofs.Living.{lives_safe, part_good}
use Rattle.mcy_top.proofs.laws.lives_are_safe.Goals as goal

pub returns-clause-lives : goal.returns-clause-lives
returns-clause-lives c = lives_safe

pub returns-clause-parts : goal.returns-clause-parts
returns-clause-parts c = part_good
