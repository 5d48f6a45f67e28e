pub mod Turns
pub mod Copied
pub mod Held
