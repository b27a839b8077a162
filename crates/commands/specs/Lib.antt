pub mod Places
pub mod Outputs
pub mod Commands
pub mod Openings
pub mod Fronts
pub mod Pieces
pub mod Statuses
