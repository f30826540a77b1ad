pub mod PaintedFrame
