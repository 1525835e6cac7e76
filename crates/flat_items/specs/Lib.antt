pub mod Flattened
pub mod Replacing
pub mod Views
pub mod Tops
pub mod Numbers
