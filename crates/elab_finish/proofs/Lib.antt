mod Common
pub mod Joined
pub mod Searching
pub mod Orders
pub mod Naming
pub mod Registering
pub mod Finishing
pub mod Ended
pub mod Leading
pub mod Sound
pub mod Lefts
