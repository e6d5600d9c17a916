pub mod Counting
pub mod Taking
pub mod Keeping
