mod Common
pub mod Forms
pub mod Instances
