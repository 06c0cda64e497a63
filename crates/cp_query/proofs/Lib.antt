mod Answered
mod Answering
mod Steps
mod Asking
mod Stepwise
mod RisingRows
mod Noting
mod TidSets
mod Quiet
mod Rising
mod PastsBelow
mod Gathering
mod Nearby
mod Visiting
mod Passing
mod Adding
mod Parts
mod Going
mod Spending
mod Summing
mod Visits
mod Bounding
mod Bounded
pub mod Followed
pub mod Telling
