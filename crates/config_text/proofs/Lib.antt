pub mod Joining
pub mod Separators
pub mod Spaced
pub mod Handing
