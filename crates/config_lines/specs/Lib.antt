pub mod Words
pub mod Parts
pub mod Lines
pub mod Fields
pub mod Courses
pub mod Frames
pub mod Hosts
