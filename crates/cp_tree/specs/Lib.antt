pub mod Branch
pub mod Good
pub mod Rows
pub mod Sums
pub mod Shared
