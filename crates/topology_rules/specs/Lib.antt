pub mod Counts
pub mod Clashes
pub mod Rules
pub mod Faults
pub mod Keys
