pub mod ActiveSlots
