use Rattle.campaign_plan.proofs.OneCampaign.{plan_once}
use Rattle.campaign_plan.proofs.laws.sources_make_one_campaign.Goals as goal

pub returns : goal.returns
returns c = plan_once
