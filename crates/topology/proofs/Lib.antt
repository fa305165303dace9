pub mod Lookup
pub mod Tabled
pub mod Reached
pub mod Listing
pub mod Within
