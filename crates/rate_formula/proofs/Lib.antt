pub mod Joined
pub mod Among
pub mod Written
pub mod Traffic
