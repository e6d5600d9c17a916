pub mod Cuts
pub mod Parts
pub mod Directories
pub mod Walks
