pub mod Records
pub mod Reading
pub mod Framed
