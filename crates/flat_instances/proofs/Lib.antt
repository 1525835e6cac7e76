mod Common
mod Wiring
