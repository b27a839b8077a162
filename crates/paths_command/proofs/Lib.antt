pub mod VersionLemmas
pub mod RunLemmas
pub mod StreamLemmas
pub mod PathsLemmas
pub mod WholeLemmas
pub mod TextExists
