pub mod Fields
pub mod Digits
pub mod Words
