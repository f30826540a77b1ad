pub mod Cells
pub mod Weights
pub mod External
