pub mod Slots
pub mod Lists
pub mod Grids
pub mod Kept
pub mod Noted
pub mod Linked
pub mod Reranked
