pub mod Localised
pub mod Faults
pub mod Limits
pub mod Usage
