pub mod Journals
pub mod Transactions
pub mod Commits
pub mod Waits
pub mod Loggers
pub mod Prefetches
