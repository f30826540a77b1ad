pub mod Numbers
pub mod LinesTable
pub mod OwnLine
pub mod FrameLines
