pub mod NodeReads
pub mod WholeTrees
pub mod RowLines
pub mod WholePrograms
pub mod LeafLines
pub mod TreeStack
