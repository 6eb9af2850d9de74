pub mod First
pub mod Open
pub mod Rows
pub mod Turning
