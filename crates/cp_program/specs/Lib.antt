pub mod Texts
pub mod InMemory
pub mod Begun
pub mod Answering
pub mod Using
pub mod Versions
pub mod FileVersions
pub mod Calls
