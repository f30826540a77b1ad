pub mod Bits
pub mod WellFormed
pub mod Refusals
pub mod Determined
