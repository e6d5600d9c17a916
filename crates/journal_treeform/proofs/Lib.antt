pub mod Zeros
pub mod Roots
pub mod Sounding
pub mod Reading
pub mod Making
pub mod AfterEnd
pub mod Copied
pub mod Outgrown
