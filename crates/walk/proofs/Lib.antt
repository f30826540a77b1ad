pub mod Rises
pub mod ModeLines
pub mod Walking
