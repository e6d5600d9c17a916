pub mod Streams
pub mod Restoring
pub mod CallLaws
pub mod Cutting
pub mod Parting
pub mod Replying
pub mod Splitting
