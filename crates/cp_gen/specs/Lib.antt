pub mod Drawing
pub mod Choices
pub mod Source
pub mod Operations
pub mod Script
pub mod Summaries
