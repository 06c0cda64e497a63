pub mod Accepted
pub mod Appending
pub mod Copies
pub mod Loaded
pub mod Passed
pub mod Reaching
pub mod RowsAlone
