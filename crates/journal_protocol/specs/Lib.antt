pub mod Connections
pub mod Grows
pub mod Moments
pub mod Output
pub mod Protocols
pub mod ReplyBatches
pub mod Sending
pub mod Serving
