pub mod Twins
pub mod Computed
