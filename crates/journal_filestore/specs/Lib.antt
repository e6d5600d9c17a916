pub mod Files
pub mod Operations
pub mod Handles
pub mod Doing
pub mod Changes
pub mod Done
pub mod Faults
