pub mod Runs
pub mod Signs
pub mod Prefixes
pub mod OnePiece
pub mod Fronts
pub mod Cuts
pub mod Rest
pub mod NoMac
