pub mod Ends
pub mod Places
