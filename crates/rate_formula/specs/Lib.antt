pub mod Usage
pub mod FormulaText
pub mod FormulaLexemes
