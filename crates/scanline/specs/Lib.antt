pub mod PaintedLine
