pub mod Verify
pub mod Verdicts
