pub mod Commits
pub mod Refusals
