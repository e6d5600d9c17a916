pub mod FilesOfMaps
pub mod Upgraded
pub mod Small
pub mod Drafting
pub mod Leaving
pub mod Disks
pub mod Bringing
pub mod Closing
