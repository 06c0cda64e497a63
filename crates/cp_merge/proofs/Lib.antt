pub mod CountedRows
pub mod Holding
pub mod Keys
pub mod Merging
pub mod Splitting
