pub mod Telling
pub mod Scanning
pub mod Skipping
pub mod Wording
