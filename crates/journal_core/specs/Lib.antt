pub mod Steps
pub mod FenceSteps
pub mod Commits
pub mod Outcomes
pub mod Interleavings
pub mod TwoLocks
