pub mod Composing
mod Counting
mod Crashing
mod Following
mod Kept
mod Replays
