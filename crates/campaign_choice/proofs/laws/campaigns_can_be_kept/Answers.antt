use Rattle.campaign_choice.proofs.Chosen.{within-size}
use Rattle.campaign_choice.proofs.Fits.{campaign_fits}
use Rattle.campaign_choice.proofs.laws.campaigns_can_be_kept.Goals as goal

pub returns-clause-few : goal.returns-clause-few
returns-clause-few c = within-size

pub returns-clause-fit : goal.returns-clause-fit
returns-clause-fit c = campaign_fits
