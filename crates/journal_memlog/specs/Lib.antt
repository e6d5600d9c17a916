pub mod Logs
pub mod Buckets
pub mod Index
pub mod Laws
pub mod Lending
