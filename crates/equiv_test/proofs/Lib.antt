mod Common
mod Reading
mod Apart
mod Telling
mod Going
mod Placing
