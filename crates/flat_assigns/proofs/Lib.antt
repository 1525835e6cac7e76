mod Common
pub mod Joins
pub mod Adding
pub mod Shapes
pub mod Bits
pub mod Scans
pub mod Steps
pub mod Firsts
pub mod Kept
pub mod Leaves
pub mod Widths
pub mod Refusals
pub mod Forms
pub mod Listing
pub mod Laying
