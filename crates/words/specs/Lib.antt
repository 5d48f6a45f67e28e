pub mod Classes
pub mod Faults
pub mod Refusals
pub mod Sentences
pub mod Reading
