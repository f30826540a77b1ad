pub mod DotAfterWrites
