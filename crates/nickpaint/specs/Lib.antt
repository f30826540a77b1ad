pub mod PaintingAfterWrites
