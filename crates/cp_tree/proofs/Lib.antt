pub mod Alike
pub mod Answering
pub mod BranchLemmas
pub mod Building
pub mod Built
pub mod Changes
pub mod Counted
pub mod EdgeRows
pub mod Edges
pub mod FewRows
pub mod Fits
pub mod Found
pub mod GoodLemmas
pub mod Leaves
pub mod Listed
pub mod ListingLemmas
pub mod Rising
pub mod Small
pub mod Split
pub mod Steps
pub mod SumsLemmas
pub mod Tallies
pub mod Totals
pub mod Walking
mod Labels
mod Siblings
