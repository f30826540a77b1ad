pub mod ComparedFiles
pub mod FirstDot
