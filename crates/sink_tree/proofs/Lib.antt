pub mod Places
pub mod Distances
pub mod Choosing
pub mod Trees
