pub mod Places
pub mod Costs
pub mod Following
pub mod Settling
pub mod Popping
pub mod Leaving
