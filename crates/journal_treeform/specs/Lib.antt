pub mod NewCuts
pub mod NewDisks
pub mod Formats
pub mod GrownDisks
