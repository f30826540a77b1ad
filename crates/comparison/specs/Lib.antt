pub mod Comparison
pub mod Answers
pub mod Agreement
pub mod Widened
