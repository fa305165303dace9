pub mod Bounds
pub mod Rows
pub mod Sides
pub mod PlainForms
