pub mod Tables
pub mod Source
