pub mod Soundness
pub mod Steps
pub mod Tokens
pub mod Cells
pub mod Counts
