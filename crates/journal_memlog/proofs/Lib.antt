pub mod Absorbing
pub mod Entries
pub mod Indexed
mod Before
pub mod Places
pub mod Tails
