pub mod Forest
pub mod Spots
pub mod Branches
