pub mod Locating
pub mod Passing
pub mod Indexing
pub mod Checking
pub mod Answering
