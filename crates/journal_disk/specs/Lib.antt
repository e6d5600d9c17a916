pub mod Disks
pub mod Images
pub mod Moments
pub mod Laws
pub mod MemDisks
pub mod FileDisks
pub mod Records
