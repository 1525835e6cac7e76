pub mod Reasons
pub mod Lefts
pub mod Generators
pub mod Designs
pub mod Connections
pub mod Items
pub mod Assignments
