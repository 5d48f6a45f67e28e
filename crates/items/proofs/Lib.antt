pub mod Faults
pub mod Passing
pub mod Knowing
pub mod Holding
pub mod Counts
pub mod Bounds
