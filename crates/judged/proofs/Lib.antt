pub mod Stepping
pub mod Telling
pub mod Holding
pub mod Naming
pub mod Matching
