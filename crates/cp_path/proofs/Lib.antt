pub mod Relating
pub mod EncodingLemmas
pub mod Same
mod Held
