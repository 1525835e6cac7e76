pub mod Projects
pub mod Mutations
pub mod Omitted
pub mod Limits
pub mod Campaigns
pub mod Laws
