pub mod Procedures
pub mod Arguments
pub mod Requests
pub mod Mounts
pub mod Outcomes
