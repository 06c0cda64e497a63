pub mod Lines
pub mod Front
pub mod Runs
pub mod Sharing
pub mod Session
pub mod SharingLaws
pub mod Examples
