pub mod Rowed
pub mod Readable
pub mod Judged
pub mod Followed
pub mod Telling
