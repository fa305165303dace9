pub mod TreeTexts
pub mod ProgramTexts
pub mod Outcomes
pub mod TreeAnswers
pub mod ProgramAnswers
pub mod Preorder
