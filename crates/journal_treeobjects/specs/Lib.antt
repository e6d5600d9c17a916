pub mod Maps
pub mod GrownMaps
pub mod Effects
pub mod Reads
pub mod States
