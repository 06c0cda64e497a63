pub mod Sessions
pub mod Starts
pub mod Workloads
