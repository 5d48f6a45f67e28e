pub mod Led
pub mod Counting
pub mod Showing
pub mod Telling
pub mod Only
