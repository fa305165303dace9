pub mod Backwards
pub mod Nearest
pub mod Trees
