pub mod Lexemes
pub mod Predicates
pub mod PathTexts
pub mod Grammar
pub mod Machine
pub mod NumberedPaths
