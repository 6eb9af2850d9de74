pub mod Listing
pub mod Stepping
pub mod Calls
pub mod Laws
