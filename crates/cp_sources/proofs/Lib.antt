pub mod Reading
pub mod Lists
pub mod Placing
mod Parsing
mod Walking
mod Looking
mod Growing
mod Surveying
mod Fitting
mod Ordered
mod Worked
