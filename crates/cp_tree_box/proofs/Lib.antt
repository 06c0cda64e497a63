mod Maps
mod Edges
mod Copies
mod Tallying
mod Changes
mod Wrapping
