pub mod Turning
pub mod Recasting
