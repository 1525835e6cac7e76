use Rattle.project_lines.proofs.Common.{◌≡◌, rules, arith, ◌∙◌, le_refl, subst, take, IsCharBoundary, without_blanks_behind}
use Rattle.project_lines.proofs.Texts.{boundary-before_blank, trimmed-is}
use Rattle.project_lines.proofs.lines.without_blanks_behind.Goals as goal
use Rattle.project_lines.proofs.lines.without_blanks_behind.Goals.{then-loop-end-test+else-is_blank, else-loop-end-test}

pub split_at-requires : goal.split_at-requires
split_at-requires c =
    let bytes = c.as_bytes-bytes.result.now in
    subst (λ t. IsCharBoundary t c.loop-end.end) c.as_bytes-bytes.ensures.value
    (boundary-before_blank bytes c.loop-end.end c.loop-end.invariant.0 (λ inside. c.loop-end.invariant.1 c.loop-end.end (le_refl c.loop-end.end) inside))

pub returns : goal.returns
returns c =
    let bytes = c.as_bytes-bytes.result.now in
    c.split_at.ensures.front
    ∙ subst (λ t. take c.loop-end.end t ≡ without_blanks_behind t) c.as_bytes-bytes.ensures.value
    (trimmed-is bytes c.loop-end.end c.loop-end.invariant.0 c.loop-end.invariant.1
    (λ some. elim c.loop-end-test.branch [
      | then-loop-end-test+else-is_blank w ↦ search rules
      | else-loop-end-test w ↦ absurd (omega arith)
    ]))
