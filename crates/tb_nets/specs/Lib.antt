pub mod Lefts
pub mod Nets
pub mod Writers
pub mod Netted
