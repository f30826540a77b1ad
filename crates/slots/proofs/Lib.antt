pub mod Runs
pub mod Cells
pub mod SlotDots
