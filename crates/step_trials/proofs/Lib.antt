mod Common
pub mod CellPorts
pub mod TableLemmas
pub mod InputLemmas
pub mod Settles
pub mod TrialLemmas
pub mod Sights
pub mod Solved
pub mod MutantTrials
mod MutantNetlists
