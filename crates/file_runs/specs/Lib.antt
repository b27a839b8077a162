pub mod RunTexts
pub mod FileRuns
pub mod Means
pub mod RunPuts
pub mod RunSteps
