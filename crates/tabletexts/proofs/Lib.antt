pub mod Backs
pub mod Cuts
pub mod Digits
pub mod Turns
