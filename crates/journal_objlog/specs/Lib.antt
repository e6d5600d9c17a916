pub mod Maps
pub mod ObjectLogs
pub mod MapLaws
pub mod ReadLaws
pub mod CutLaws
pub mod Reading
pub mod StepLaws
pub mod Groups
