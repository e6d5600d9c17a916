pub mod Verified
pub mod Reading
pub mod Holding
pub mod Running
pub mod Events
pub mod HoldRuns
pub mod Joining
pub mod OneThread
pub mod Admitting
pub mod FencesOfPairs
mod Examples
mod HoldExamples
