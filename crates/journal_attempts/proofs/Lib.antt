pub mod Committing
pub mod Few
pub mod Refusing
