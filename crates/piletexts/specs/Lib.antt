pub mod Lines
pub mod Commands
pub mod Blocks
