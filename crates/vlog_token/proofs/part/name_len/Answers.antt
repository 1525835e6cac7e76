use Rattle.vlog_token.proofs.Common.{sym, ◌∙◌, subst, arith, IsName, IsLongestFront}
use Rattle.vlog_token.proofs.Fronts.{name_front}
use Rattle.vlog_token.proofs.part.name_len.Goals as goal

pub returns-in-len1-up : goal.returns-in-len1-up
returns-in-len1-up c =
    subst (IsLongestFront IsName c.args.bytes.now) (sym c.name_run.ensures.run)
    (name_front c.args.bytes.now (omega arith) (sym c.is_name_start.ensures ∙ c.if-is_name_start.true))
