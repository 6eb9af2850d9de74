pub mod Succession
