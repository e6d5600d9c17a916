pub mod Answers
pub mod Clients
pub mod Downs
pub mod Endings
pub mod Lost
pub mod Transcripts
pub use Rattle.journal_command.specs.Asks
