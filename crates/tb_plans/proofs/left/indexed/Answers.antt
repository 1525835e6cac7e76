use Rattle.tb_plans.proofs.Common.{ap, sym, ◌∙◌, ℤ, integer, vector_is, window_update}
use Rattle.tb_plans.proofs.Targets.{number_is}
use Rattle.tb_plans.proofs.left.indexed.Goals as goal

pub returns-then-is_within-clause-updates : goal.returns-then-is_within-clause-updates
returns-then-is_within-clause-updates c store v =
    c.of_clip.ensures.updates store v
    ∙ c.clip_of.ensures v
    ∙ ap (λ (z : ℤ). window_update (record { vector = vector_is c.args.vector; base = z; size = c.args.size }) v) (c.of-base.ensures.value ∙ ap (integer c.args.shape) (sym (number_is c.args.index c.in-Number.at store c.in-Number.is)))

pub returns-then-is_within-clause-fits : goal.returns-then-is_within-clause-fits
returns-then-is_within-clause-fits c = λ widths fits. c.of_clip.ensures.fits widths
