use Rattle.vlog_token.proofs.Common.{get_or, ap, arith}
use Rattle.std.proofs.lemmas.Str.{IsCharBoundary-after_ascii}
use Rattle.vlog_token.proofs.quoted.without_backslash.Goals as goal

pub split_at-requires : goal.split_at-requires
split_at-requires c =
    let first = ap (λ b. get_or b 0 0) c.as_bytes.ensures.value in
    IsCharBoundary-after_ascii c.args.text.now 0 c.utf8.text (omega (arith, c.as_bytes.ensures.len)) (omega (arith, first))
