pub mod Marks
pub mod Adding
pub mod PublicationLemmas
pub mod Moves
pub mod LookLemmas
pub mod CopyLemmas
pub mod DifferenceLemmas
