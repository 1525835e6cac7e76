use Rattle.project_lines.proofs.Common.{rules, arith}
use Rattle.project_lines.proofs.Texts.{part-is}
use Rattle.project_lines.proofs.paths.last_part.Goals as goal
use Rattle.project_lines.proofs.paths.last_part.Goals.{then-loop-start-test+else-path-start-ne47, else-loop-start-test}

pub returns : goal.returns
returns c =
    part-is c.args.path.now c.loop-start.start c.loop-start.invariant.0 c.loop-start.invariant.1
    (λ some. elim c.loop-start-test.branch [
      | then-loop-start-test+else-path-start-ne47 w ↦ search rules
      | else-loop-start-test w ↦ absurd (omega arith)
    ])
