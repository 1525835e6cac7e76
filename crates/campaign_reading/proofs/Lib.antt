mod Common
pub mod Trying
pub mod First
pub mod Takes
pub mod Judging
pub mod OneCause
