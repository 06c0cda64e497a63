mod Between
mod Front
mod Runs
pub mod Worked
pub mod Appended
pub mod SessionLemmas
pub mod Supplies
pub mod VersionsKept
mod Desks
mod SharedTurns
mod OnLastTree
mod AnsweredAlone
