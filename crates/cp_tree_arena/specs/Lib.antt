pub mod Arenas
pub mod Building
pub mod Cells
pub mod Changes
pub mod Kept
pub mod Linking
pub mod Shapes
pub mod Slots
