use Rattle.project_lines.proofs.Common.{arith, IsCharBoundary-after_ascii}
use Rattle.project_lines.proofs.lines.in_brackets.Goals as goal

pub split_at-requires : goal.split_at-requires
split_at-requires c = IsCharBoundary-after_ascii c.args.text.now 0 c.utf8.text (omega arith) (omega (arith, c.requires.first))
