mod Numbers
pub mod Several
