pub mod Summaries
pub mod GenerateCommand
pub mod GenerateSteps
