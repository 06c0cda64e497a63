pub mod Held
pub mod Recording
pub mod Transactions
