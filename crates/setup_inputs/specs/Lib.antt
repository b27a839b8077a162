pub mod Setups
pub mod Steps
