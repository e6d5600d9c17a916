pub mod Served
pub mod Answers
