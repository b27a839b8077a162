pub mod ShowCommand
pub mod ShowSteps
