pub mod Bounds
pub mod Messages
pub mod Spans
pub mod Summaries
