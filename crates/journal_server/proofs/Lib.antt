pub mod Holding
pub mod Staying
pub mod Steps
pub mod Telling
