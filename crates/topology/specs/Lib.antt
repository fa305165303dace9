pub mod Lawful
pub mod Look
pub mod Symbols
pub mod Tables
pub mod Kept
