mod Common
pub mod Verdicts
pub mod Fitting
pub mod Words
pub mod Asking
pub mod Lefts
pub mod Ending
pub mod Equalities
pub mod Simulations
pub mod Works
