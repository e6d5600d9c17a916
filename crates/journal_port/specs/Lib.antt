pub mod Requests
pub mod Reads
pub mod Parts
pub mod Answers
pub mod Served
pub mod Growing
pub mod Staying
pub mod ServedLaws
