pub mod Opening
pub mod Provided
