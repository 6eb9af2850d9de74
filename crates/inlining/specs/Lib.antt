pub mod Steps
pub mod Choice
pub mod Sites
pub mod Stretches
pub mod Ranges
pub mod Finding
pub mod Laws
