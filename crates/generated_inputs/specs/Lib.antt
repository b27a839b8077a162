pub mod Draws
pub mod Frames
pub mod Setups
pub mod Routes
pub mod Segments
pub mod Inputs
