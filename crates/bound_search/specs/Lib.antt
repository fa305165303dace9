pub mod Boxes
pub mod Growing
pub mod Outcomes
pub mod Descent
