mod Common
mod Faultless
mod Naming
mod Numbered
mod Rules
mod Starting
mod Tops
