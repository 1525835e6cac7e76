pub mod Alike
pub mod Reasons
pub mod Laws
