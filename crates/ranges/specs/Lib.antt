pub mod Held
pub mod Uncovered
