pub mod Operations
pub mod Statuses
pub mod Arrays
pub mod Requests
pub mod Answers
pub mod Limits
pub mod Frames
pub mod Readings
