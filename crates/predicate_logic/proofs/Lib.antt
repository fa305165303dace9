pub mod Shapes
pub mod Meanings
pub mod Unmentioned
pub mod Placing
pub mod Untested
pub mod Blocks
