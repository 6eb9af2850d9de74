pub mod Kept
pub mod Shelf
pub mod Stretches
