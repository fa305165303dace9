pub mod Further
pub mod Judged
pub mod NamedNodes
pub mod OneTree
pub mod ParsedIds
pub mod Refusing
