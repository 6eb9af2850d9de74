pub mod Reading
pub mod Keeping
pub mod Places
pub mod Finding
pub mod Comparing
pub mod Laws
