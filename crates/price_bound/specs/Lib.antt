pub mod Asked
pub mod Steps
pub mod Graphs
pub mod Spreads
pub mod Priced
pub mod Numbers
pub mod Loads
pub mod Trials
