use Rattle.vlog_token.proofs.Common.{sym, subst, IsQuoted, FindsFront, IsBodyOf}
use Rattle.vlog_token.proofs.StringFronts.{string_front}
use Rattle.vlog_token.proofs.part.body_len.Goals as goal

pub returns-in-String : goal.returns-in-String
returns-in-String c =
    subst (λ k. FindsFront (IsBodyOf k) c.args.bytes.now c.string_len.result) (sym c.in-String.is)
    (subst (FindsFront IsQuoted c.args.bytes.now) (sym c.string_len.ensures) (string_front c.args.bytes.now))
