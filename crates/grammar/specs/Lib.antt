pub mod Brackets
pub mod Texts
pub mod Pieces
pub mod Spelling
pub mod Writing
pub mod Charts
pub mod Plain
pub mod Exact
