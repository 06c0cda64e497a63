pub mod Causes
pub mod FileReads
pub mod MemoryStates
pub mod Sinks
pub mod Moments
pub mod MemoryClocks
