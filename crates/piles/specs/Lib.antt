pub mod Meanings
pub mod Stack
pub mod Applied
pub mod Piled
