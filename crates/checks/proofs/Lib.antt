pub mod Cuts
pub mod Chosen
pub mod Places
pub mod Scans
pub mod Passed
pub mod Exact
pub mod Joined
