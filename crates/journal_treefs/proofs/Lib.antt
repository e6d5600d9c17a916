pub mod Committing
pub mod Few
