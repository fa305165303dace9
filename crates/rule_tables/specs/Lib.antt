pub mod Branches
pub mod Buckets
pub mod Searches
pub mod Hops
pub mod Rows
pub mod Entries
pub mod Placed
