pub mod Items
pub mod Parsing
pub mod Surveys
pub mod Instances
pub mod Known
pub mod Tallies
