mod Adding
mod Contents
mod Counting
pub mod Covering
mod Differing
mod Finding
mod Following
mod Forgetting
pub mod HistoryTrees
mod Idling
mod Listing
mod Making
mod Noted
mod PhaseLemmas
mod VersionTrees
