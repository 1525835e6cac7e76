use Rattle.campaign_baseline.proofs.OneList.{baselines_once}
use Rattle.campaign_baseline.proofs.laws.baselines_are_one.Goals as goal

pub returns : goal.returns
returns c = baselines_once c.benches_have_one_outcome.ensures c.benches_end_once.ensures
