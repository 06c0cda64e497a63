pub mod Exactly
pub mod Fresh
pub mod Moved
mod Older
mod Openings
mod Same
pub mod Storing
mod Tails
pub mod Writes
