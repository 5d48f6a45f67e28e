pub mod Names
pub mod Listings
pub mod Buffers
pub mod Lines
