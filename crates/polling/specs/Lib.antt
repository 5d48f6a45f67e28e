pub mod InTurn
pub mod Polling
pub mod Limits
