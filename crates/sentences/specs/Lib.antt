pub mod Wants
pub mod Reading
pub mod Events
