pub mod Members
pub mod Walks
