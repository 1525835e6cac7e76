pub mod Grammar
pub mod Choice
pub mod Trees
pub mod Reading
pub mod Sets
pub mod Look
pub mod Machine
