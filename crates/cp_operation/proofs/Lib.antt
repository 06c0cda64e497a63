pub mod Accepting
mod Cases
pub mod Changed
mod Depths
mod Limits
pub mod Linked
pub mod LoadedLemmas
mod Loading
mod OpRows
mod Reached
mod Recorded
pub mod Replayed
pub mod RowsAloneLemmas
pub mod TopRows
