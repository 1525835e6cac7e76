mod Common
mod Lists
mod Lefts
pub mod Accepted
mod Labels
mod Sounding
mod Widths
mod Assigned
mod Blanking
mod Rejoining
pub mod Adding
mod Storing
mod Begun
mod Finished
mod Holding
pub mod Clocking
mod Firsts
mod OneKind
mod Bodies
pub mod Fits
pub mod Items
pub mod Starting
pub mod Laying
