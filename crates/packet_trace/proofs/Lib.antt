pub mod Best
pub mod LinkedBoth
pub mod Plain
pub mod Steps
pub mod Hops
pub mod Reading
