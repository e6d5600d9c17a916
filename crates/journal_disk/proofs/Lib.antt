pub mod Places
pub mod Links
pub mod Choices
pub mod Rewritten
pub mod Fillings
