pub mod Layouts
pub mod Faults
pub mod Edges
pub mod Weights
pub mod Adding
