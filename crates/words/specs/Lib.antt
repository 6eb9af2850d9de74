pub mod Numbers
pub mod Quotes
pub mod Cuts
pub mod Lines
