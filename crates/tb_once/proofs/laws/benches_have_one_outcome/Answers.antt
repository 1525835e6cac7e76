use Rattle.tb_once.proofs.Common.{widths, setting_of, start_of, AreValues}
use Rattle.tb_once.proofs.Values.{values_of_words}
use Rattle.tb_once.proofs.Outcomes.{one_outcome}
use Rattle.tb_once.proofs.Steady.{bench_steady}
use Rattle.tb_once.proofs.laws.benches_have_one_outcome.Goals as goal

pub returns : goal.returns
returns c = λ b tree plan words n o p runs sound fits x y.
    one_outcome (setting_of b tree plan.raw) (AreValues (widths b)) (bench_steady c.nets_settle_once.ensures b tree plan runs sound fits) n (start_of b tree plan.raw words) o p (values_of_words b.starts) x y
