pub mod RatesByPlace
pub mod Crossed
pub mod ClassNumbers
pub mod HostLaws
pub mod Owned
