pub mod Committed
mod Finishing
mod Followed
pub mod Going
mod KeptRecords
mod RecordingLemmas
pub mod Rising
pub mod StepRows
pub mod Stepped
