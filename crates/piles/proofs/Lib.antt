pub mod Stacking
pub mod Following
