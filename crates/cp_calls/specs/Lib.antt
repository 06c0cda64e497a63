pub mod CaseFiles
pub mod Twins
