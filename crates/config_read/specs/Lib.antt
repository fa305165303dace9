pub mod Sections
pub mod Bodies
pub mod Tails
pub mod Heads
pub mod Results
pub mod Answers
