pub mod Doing
pub mod Holding
pub mod Keeping
pub mod Copies
pub mod Short
