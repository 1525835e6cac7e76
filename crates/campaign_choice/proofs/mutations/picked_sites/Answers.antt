use Rattle.campaign_choice.proofs.Common.{rules, picked_sites}
use Rattle.campaign_choice.proofs.mutations.picked_sites.Goals as goal

pub returns : goal.returns
unfolding picked_sites
returns c = search rules
