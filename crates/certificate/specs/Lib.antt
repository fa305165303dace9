pub mod Adding
pub mod Weights
pub mod Checks
pub mod Narrowed
