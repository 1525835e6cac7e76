mod Common
pub mod Lists
pub mod Firsts
pub mod Forms
pub mod Order
pub mod SideLemmas
pub mod CaseLemmas
pub mod StepLemmas
pub mod TurnLemmas
pub mod WalkLemmas
