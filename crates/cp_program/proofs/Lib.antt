mod FromStart
mod Used
mod Verdicts
mod Versioned
mod Answered
mod FileVersions
mod Called
