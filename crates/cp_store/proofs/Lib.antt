pub mod AskLemmas
mod AboveLemmas
mod Before
mod Below
mod Counting
mod Fronts
mod Found
mod Joined
mod Keeping
mod KeyFronts
mod Keys
mod Losses
mod Nearest
mod NearestRows
mod NewestAbove
mod Noted
mod PackedRows
mod Within
mod OwnChanges
pub mod RowsTold
pub mod Steps
