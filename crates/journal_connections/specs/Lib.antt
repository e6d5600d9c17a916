pub mod Addresses
pub mod Listeners
pub mod Ranges
