pub mod States
pub mod Automata
pub mod SeenSymbols
pub mod Classes
pub mod Followed
pub mod Living
pub mod Inside
pub mod Built
