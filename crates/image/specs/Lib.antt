pub mod Image
pub mod Checks
