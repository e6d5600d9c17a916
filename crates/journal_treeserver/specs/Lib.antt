pub mod Asking
pub mod Forms
pub mod Again
pub mod Answers
pub mod CodeViews
pub mod Lawful
pub mod Kept
pub mod Short
