pub mod Numeral
pub mod Outcome
pub mod Pieces
pub mod Table
pub mod Written
