mod Common
mod Cuts
mod Each
