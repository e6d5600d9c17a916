pub mod Places
pub mod Versions
pub mod Nodes
pub mod Sound
pub mod Admitting
pub mod SameFiles
pub mod Formats
pub mod Upgrades
