pub mod Faults
pub mod Nlris
pub mod Attributes
pub mod Updates
pub mod Refusals
pub mod Pieces
pub mod Steps
pub mod Checks
