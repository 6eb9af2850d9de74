pub mod Depths
pub mod Reduced
pub mod Edges
pub mod Sweep
pub mod Parts
pub mod Completed
