pub mod Values
pub mod Parts
pub mod ValueTexts
pub mod Faults
pub mod Printed
