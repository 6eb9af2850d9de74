pub mod Kept
pub mod Joining
