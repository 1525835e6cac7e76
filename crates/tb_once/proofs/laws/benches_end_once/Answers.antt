use Rattle.tb_once.proofs.Common.{widths, setting_of, start_of, AreValues}
use Rattle.tb_once.proofs.Values.{values_of_words}
use Rattle.tb_once.proofs.Outcomes.{goes_on}
use Rattle.tb_once.proofs.Steady.{bench_steady}
use Rattle.tb_once.proofs.laws.benches_end_once.Goals as goal

pub returns : goal.returns
returns c = λ b tree plan words n before t u v e runs sound fits less all some phase.
    goes_on (setting_of b tree plan.raw) (AreValues (widths b)) (bench_steady c.nets_settle_once.ensures b tree plan runs sound fits) n before (start_of b tree plan.raw words) t u v e (values_of_words b.starts) less all some phase
