pub mod Moves
pub mod Joined
pub mod After
pub mod Beside
pub mod Recast
