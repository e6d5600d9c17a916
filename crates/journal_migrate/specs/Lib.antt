pub mod Either
pub mod Holding
pub mod Superblocks
pub mod Marking
pub mod Migrations
