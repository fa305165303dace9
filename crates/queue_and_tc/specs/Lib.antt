pub mod Reserved
pub mod Shares
pub mod HostTexts
