pub mod Carry
pub mod Media
