pub mod WrittenLines
pub mod ListCall
pub mod Modes
