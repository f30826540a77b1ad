pub mod PaintedSlot
pub mod Shows
