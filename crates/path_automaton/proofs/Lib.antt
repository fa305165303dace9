pub mod Places
pub mod Noting
pub mod Naming
pub mod Classing
pub mod Twins
pub mod Following
pub mod LivingLaws
pub mod Building
pub mod Tables
pub mod Numbering
pub mod Listed
mod Found
