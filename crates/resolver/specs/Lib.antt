pub mod Resolving
pub mod Listing
