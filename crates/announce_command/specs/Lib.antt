pub mod AnnounceCommand
pub mod AnnounceSteps
