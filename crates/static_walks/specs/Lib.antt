pub mod Walks
pub mod TurnSteps
