mod Blame
mod Lines
mod Plays
pub mod Runs
pub mod Replied
pub mod Whole
pub mod Opened
pub mod Made
pub mod Scripted
pub mod Said
pub mod LoadedAlone
