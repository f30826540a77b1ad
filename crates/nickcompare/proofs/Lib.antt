pub mod FirstDot
