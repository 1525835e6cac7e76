pub mod Trials
pub mod Campaigns
pub mod Laws
pub use Rattle.project_benches.specs.Benches
