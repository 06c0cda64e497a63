pub mod Adapters
pub mod Disks
pub mod Locks
