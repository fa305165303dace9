pub mod Turned
pub mod Paths
pub mod Followed
pub mod Marks
pub mod Solutions
pub mod Loads
pub mod Bounds
pub mod Widths
