use Rattle.vlog_token.proofs.Common.{sym, subst, arith, IsSolid, IsLongestFront}
use Rattle.vlog_token.proofs.Fronts.{solid_front}
use Rattle.vlog_token.proofs.part.solid_len.Goals as goal

pub returns-in_default : goal.returns-in_default
returns-in_default c =
    subst (IsLongestFront IsSolid c.args.bytes.now) (sym c.solid_run.ensures.run)
    (solid_front c.args.bytes.now (omega (arith, c.solid_run.ensures.run)))
