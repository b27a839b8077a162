pub mod HeaderLemmas
pub mod ShowLemmas
pub mod SourceLemmas
pub mod StreamLemmas
