pub mod DotSlots
pub mod Scanlines
pub mod Idle
