pub mod Taking
pub mod Naming
pub mod Operands
pub mod Feeding
