pub mod Pieces
pub mod Bits
