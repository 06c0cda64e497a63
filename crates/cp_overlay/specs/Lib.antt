pub mod Kept
pub mod Shown
pub mod Lost
pub mod Effects
pub mod Net
pub mod Seen
