pub mod Paths
pub mod Answers
pub mod Changes
pub mod Published
pub mod Scripted
