mod Common
pub mod Trees
pub mod Passing
pub mod Agreeing
pub mod Adding
pub mod Pushing
pub mod Arms
