pub mod Tab
pub mod Number
