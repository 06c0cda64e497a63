mod Current
pub mod DeskLaws
pub mod DeskLemmas
mod Open
mod Operating
pub mod OverLemmas
