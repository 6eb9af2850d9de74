pub mod Image
pub mod Marked
