pub mod Walks
pub mod Rings
