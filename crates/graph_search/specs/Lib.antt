pub mod Graphs
pub mod Frontiers
pub mod Departures
pub mod Searching
