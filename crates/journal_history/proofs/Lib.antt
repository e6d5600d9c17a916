pub mod Growth
pub mod Exchanges
pub mod Committing
mod Moves
