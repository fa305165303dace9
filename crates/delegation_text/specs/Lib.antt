pub mod Members
pub mod Trees
pub mod Alongside
pub mod Failing
