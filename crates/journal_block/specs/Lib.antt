pub mod Block
pub mod Lending
pub mod Updates
pub mod UpdateLaws
pub mod BlockLaws
