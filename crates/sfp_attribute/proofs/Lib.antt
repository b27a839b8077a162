pub mod CellLemmas
pub mod StepLemmas
pub mod HeadReadings
pub mod HopPartReadings
pub mod PartReadings
pub mod SfpReadings
pub mod ExactLemmas
pub mod TotalReadings
