pub mod ListingAfterWrites
