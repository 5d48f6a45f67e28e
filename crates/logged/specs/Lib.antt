pub mod Leading
pub mod Taken
pub mod Shown
pub mod Told
