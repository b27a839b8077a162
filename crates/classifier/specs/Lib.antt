pub mod Rules
pub mod Matching
pub mod Verdicts
pub mod Stations
