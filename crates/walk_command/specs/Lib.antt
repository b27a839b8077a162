pub mod WalkCommand
pub mod WalkSteps
