pub mod BadRows
