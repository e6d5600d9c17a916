pub mod Poking
pub mod Talking
pub mod Replying
pub mod Losing
