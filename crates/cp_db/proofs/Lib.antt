pub mod Keeping
mod TakingCounts
mod TakingLists
pub mod Taking
pub mod TakingCommits
pub mod OpeningFrames
pub mod OpeningItems
pub mod OpeningStores
pub mod Walking
mod WalkingFrames
mod Logging
mod Archiving
mod Versioned
mod WritingStanding
mod WritingFrames
mod WritingLoads
mod WritingWithin
mod WritingCommits
mod WritingTransactions
mod WritingStarts
pub mod FileVersions
