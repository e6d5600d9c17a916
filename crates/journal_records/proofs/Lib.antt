pub mod Lists
pub mod Faults
pub mod Spelling
pub mod Streams
