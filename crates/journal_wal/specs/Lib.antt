pub mod Wal
pub mod States
pub mod Recovery
pub mod Groups
