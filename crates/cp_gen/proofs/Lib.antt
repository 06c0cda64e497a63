pub mod Labels
pub mod Tested
pub mod SourceLaws
pub mod ScriptLaws
mod Answered
mod Counting
