pub mod Counted
pub mod Distinct
pub mod KeyClashes
pub mod Fewer
pub mod Sharing
pub mod Lawful
pub mod Telling
pub mod Broken
