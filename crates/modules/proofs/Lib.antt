pub mod Good
mod Searches
