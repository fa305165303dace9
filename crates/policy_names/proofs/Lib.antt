pub mod Shapes
pub mod Tabled
pub mod Ordered
pub mod Functionless
