pub mod Hidden
pub mod Layer
