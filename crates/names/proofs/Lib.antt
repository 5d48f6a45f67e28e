mod Sorted
mod Searching
pub mod Noting
pub mod Lookups
