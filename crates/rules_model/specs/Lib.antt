pub mod Products
pub mod Tables
pub mod Promise
pub mod AttachedHosts
