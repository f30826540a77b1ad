pub mod Below
pub mod Tests
pub mod Laws
pub mod Rows
