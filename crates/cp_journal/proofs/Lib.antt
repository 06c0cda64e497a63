mod Adding
pub mod Bodies
mod Faults
mod FrameWrites
pub mod Fronts
mod Looks
mod NewStores
mod Pieces
pub mod Places
pub mod SlotWrites
pub mod Standing
mod Stretch
pub mod Tails
pub mod Upgrading
pub mod Walks
