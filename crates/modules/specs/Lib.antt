pub mod Ranks
pub mod Meaning
pub mod BadRows
