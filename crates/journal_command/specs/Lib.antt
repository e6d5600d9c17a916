pub mod Asks
pub mod Commands
pub mod Lines
pub mod Numbers
pub mod Values
