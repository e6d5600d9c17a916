pub mod Openings
pub mod Refusing
pub mod Readings
