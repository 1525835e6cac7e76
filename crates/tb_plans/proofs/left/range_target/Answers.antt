use Rattle.tb_plans.proofs.Common.{names_of, Range}
use Rattle.tb_plans.proofs.Targets.{piece_target}
use Rattle.tb_plans.proofs.left.range_target.Goals as goal

pub returns : goal.returns
returns c = piece_target (names_of c.args.scope.now) (record { name = c.args.name.now; select = Range c.args.span c.args.msb.now c.args.lsb.now }) c.range_piece.result c.clip_of.result c.args.bits c.of_clip.result c.range_piece.ensures c.clip_of.ensures c.of_clip.ensures.updates c.of_clip.ensures.fits
