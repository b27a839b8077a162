pub mod RunCommand
pub mod ThreadedSteps
