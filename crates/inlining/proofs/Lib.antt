pub mod Choice
pub mod Stretches
pub mod Walking
pub mod Covering
pub mod Agreeing
pub mod Depth
