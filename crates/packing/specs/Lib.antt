pub mod Packed
pub mod Compared
pub mod Runs
