pub mod Markings
pub mod Stream
pub mod Cuts
pub mod Parts
pub mod Calls
pub mod CallViews
pub mod Replies
