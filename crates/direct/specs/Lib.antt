pub mod DotFromBytes
