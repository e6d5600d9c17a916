pub mod Marked
pub mod Standings
pub mod Pendings
pub mod Using
pub mod Timeless
