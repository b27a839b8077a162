pub mod Head
pub mod Refusal
pub mod Edit
