mod Common
pub mod Kept
pub mod TrialLaws
pub mod Plans
pub mod Fitted
pub mod OneCampaign
pub mod Limits
