pub mod Laws
pub mod SimWords
