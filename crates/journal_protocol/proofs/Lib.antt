pub mod Answering
pub mod Behind
pub mod Counting
pub mod Sends
pub mod Serving
pub mod Settling
pub mod Staying
pub mod Turning
