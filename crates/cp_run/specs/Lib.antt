pub mod Answers
pub mod Bad
pub mod Causes
pub mod Holding
pub mod Looks
pub mod Pages
pub mod Searching
pub mod Sets
