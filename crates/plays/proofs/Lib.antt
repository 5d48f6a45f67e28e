pub mod Following
pub mod Once
pub mod Making
pub mod Charting
pub mod Checks
