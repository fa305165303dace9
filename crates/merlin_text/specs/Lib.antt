pub mod Tokens
pub mod Fronts
pub mod Rest
pub mod Lexemes
pub mod ReadLexemes
