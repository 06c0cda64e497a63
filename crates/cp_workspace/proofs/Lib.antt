pub mod Standing
mod Turning
mod Operating
mod Committing
mod Answering
mod Loading
mod Fetched
mod Owning
mod Desking
mod Seating
mod Sharing
mod SharedEntries
pub mod Readings
mod Written
pub mod ReadCounts
pub mod Spent
pub mod Supplied
