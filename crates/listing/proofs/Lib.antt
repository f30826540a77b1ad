pub mod Pieces
pub mod Length
pub mod BlocksLeft
pub mod FirstLines
