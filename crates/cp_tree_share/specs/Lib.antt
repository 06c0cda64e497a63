pub mod Falls
pub mod Nodes
pub mod Parts
pub mod Reading
pub mod Siblings
