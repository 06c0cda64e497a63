mod Growing
mod Kept
mod Lengths
mod Decoded
mod Iterating
mod Ordered
