pub mod Records
pub mod WellFormed
pub mod InsideRam
pub mod Demand3
pub mod Dependence
pub mod Demand3Examples
