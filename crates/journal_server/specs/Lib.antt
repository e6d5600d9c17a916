pub mod FileLaws
pub mod FileProtocols
pub mod NineLaws
pub mod Output
pub mod Queues
pub mod Refusals
pub mod Sources
