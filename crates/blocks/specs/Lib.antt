pub mod ActiveSlots
pub mod Modes
