pub mod Named
pub mod Provided
pub mod OneProduct
pub mod OneProgram
pub mod OneInput
pub mod Unrefused
pub mod ResultKinds
