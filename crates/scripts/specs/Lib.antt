pub mod Operands
pub mod MediumLines
pub mod Calls
pub mod Hex
pub mod Statements
