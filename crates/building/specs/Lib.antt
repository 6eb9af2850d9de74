pub mod Starts
pub mod Blocks
pub mod Outcome
pub mod Filling
pub mod Runs
