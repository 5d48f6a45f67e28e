pub mod Stepped
pub mod OneRecord
pub mod Answered
pub mod Onward
pub mod Split
pub mod Promised
pub mod Carrying
