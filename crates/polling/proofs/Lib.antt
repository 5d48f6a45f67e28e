pub mod Turns
pub mod Places
pub mod Happens
pub mod Size
pub mod Sound
pub mod Judged
pub mod Spanned
