pub mod Choosing
pub mod Extents
pub mod Keeping
pub mod Reading
pub mod Resolving
pub mod Searching
pub mod Sound
