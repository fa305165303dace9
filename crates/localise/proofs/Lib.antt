pub mod Through
pub mod Repeated
pub mod Tabled
pub mod Divided
pub mod Ordered
pub mod Clear
pub mod Summed
pub mod Keeping
