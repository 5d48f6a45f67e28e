pub mod Weights
pub mod Following
pub mod Adjoining
