pub mod SlotDots
