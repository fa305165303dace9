pub mod Trailing
pub mod Searching
pub mod Rows
pub mod Followers
pub mod Walks
pub mod Between
