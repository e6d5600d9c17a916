pub mod ArgumentLaws
pub mod Calling
pub mod Short
