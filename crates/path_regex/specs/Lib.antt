pub mod Parts
pub mod Order
pub mod Normal
pub mod Derivatives
pub mod Functions
pub mod Languages
pub mod States
pub mod Shared
