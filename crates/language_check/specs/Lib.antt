pub mod Inclusion
pub mod Trails
pub mod Ways
