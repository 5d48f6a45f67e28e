pub mod Computed
pub mod Only
pub mod Told
pub mod Each
