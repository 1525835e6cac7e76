use Rattle.tb_plans.proofs.Common.{names_of, Whole}
use Rattle.tb_plans.proofs.Targets.{piece_target}
use Rattle.tb_plans.proofs.left.whole_target.Goals as goal

pub returns : goal.returns
returns c = piece_target (names_of c.args.scope.now) (record { name = c.args.name.now; select = Whole }) c.whole_piece.result c.clip_of.result c.args.bits c.of_clip.result c.whole_piece.ensures c.clip_of.ensures c.of_clip.ensures.updates c.of_clip.ensures.fits
