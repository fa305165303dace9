pub mod Pairs
pub mod Added
pub mod Heaviest
pub mod Counted
