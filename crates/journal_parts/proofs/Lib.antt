pub mod Resting
pub mod Opening
pub mod Between
pub mod Lending
pub mod Enduring
pub mod CallsOfLogs
pub mod Pairing
pub mod Faults
