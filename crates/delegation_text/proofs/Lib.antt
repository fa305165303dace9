pub mod Doubled
pub mod Finding
pub mod Growing
pub mod Carrying
pub mod OneTree
