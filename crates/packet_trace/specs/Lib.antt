pub mod Behaviours
pub mod Rewrites
pub mod Fitting
pub mod Processes
pub mod Steps
pub mod Trace
