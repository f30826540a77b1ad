pub mod StatesAfter
pub mod LineDots
pub mod Frames
pub mod Paintings
pub mod ReadAlike
