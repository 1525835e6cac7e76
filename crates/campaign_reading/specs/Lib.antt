pub mod Files
pub mod Reads
pub mod Readable
pub mod Laws
pub use Rattle.campaign_plan.specs.declared.prepared.Prepared
