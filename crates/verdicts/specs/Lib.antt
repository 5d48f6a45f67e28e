pub mod Answers
pub mod Charts
pub mod Kept
pub mod Judging
pub mod Checking
pub mod Told
