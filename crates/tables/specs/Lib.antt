pub mod Findings
pub mod Seen
pub mod TableLists
