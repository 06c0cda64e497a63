pub mod Answers
pub mod Text
pub mod Place
pub mod PathOrder
pub mod Whole
pub mod Spelling
pub mod Encoding
pub mod Room
