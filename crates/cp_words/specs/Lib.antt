pub mod Operands
pub mod Commands
pub mod Shapes
pub mod Matches
