pub mod Bytes
pub mod Kept
pub mod Packed
pub mod Unpacked
