pub mod Readers
pub mod Policies
pub mod PredicateTexts
