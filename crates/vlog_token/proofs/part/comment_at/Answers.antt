use Rattle.vlog_token.proofs.Common.{◌∙◌, ap, subst, prefix_len, take_rest, is_in_line, IsFirstClose}
use Rattle.vlog_token.proofs.GapLemmas.{block_gap, line_gap}
use Rattle.vlog_token.proofs.part.comment_at.Goals as goal

pub returns-then-bytes-eq47 : goal.returns-then-bytes-eq47
returns-then-bytes-eq47 c =
    line_gap c.args.bytes.now c.line_run.result c.requires c.if-bytes-eq47.true
    (c.line_run.ensures.run ∙ ap (prefix_len is_in_line) (take_rest c.args.bytes.now 2))

pub returns-in-Some : goal.returns-in-Some
returns-in-Some c =
    block_gap c.args.bytes.now c.in-Some.at c.requires c.if-bytes-eq47.false
    (subst (λ body. IsFirstClose body c.in-Some.at) (take_rest c.args.bytes.now 2) c.in-Some.ensures)
