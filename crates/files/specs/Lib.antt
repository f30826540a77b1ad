pub mod Buffers
pub mod Outputs
pub mod Reading
pub mod Same
pub mod Writes
