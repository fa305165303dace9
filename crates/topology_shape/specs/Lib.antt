pub mod Json
pub mod Format
pub mod Wrong
pub mod Numbering
pub mod Kept
pub mod Described
pub mod Faults
pub mod Forms
