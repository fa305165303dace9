pub mod AllThere
pub mod Bits
pub mod FieldsBack
pub mod ReadBack
pub mod ActionsBack
pub mod FieldsTaken
pub mod MatchesBack
