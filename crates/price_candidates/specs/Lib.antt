pub mod Leaves
pub mod Tried
pub mod OneLink
