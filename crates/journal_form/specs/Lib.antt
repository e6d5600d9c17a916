pub mod Forms
pub mod Emptying
pub mod Inspections
