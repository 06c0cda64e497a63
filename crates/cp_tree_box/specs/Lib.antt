pub mod Nodes
pub mod Falls
pub mod Tallies
