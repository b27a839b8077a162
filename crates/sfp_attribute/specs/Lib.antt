pub mod Sfps
pub mod Refusals
pub mod Steps
