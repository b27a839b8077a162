pub mod VersionTexts
pub mod PathsCommand
pub mod PathsSteps
