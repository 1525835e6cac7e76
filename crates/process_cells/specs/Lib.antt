pub mod Ready
pub mod Processes
pub mod Laws
pub mod Items
pub mod Laid
pub mod Starts
