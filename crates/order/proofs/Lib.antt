pub mod Ranks
pub mod Rows
pub mod Unique
pub mod Insertion
pub mod Search
