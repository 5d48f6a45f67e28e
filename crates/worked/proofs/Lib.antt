pub mod Computed
pub mod Rows
