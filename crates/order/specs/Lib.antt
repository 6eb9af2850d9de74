pub mod Rank
pub mod Placed
