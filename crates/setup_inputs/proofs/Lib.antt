pub mod MoveLemmas
pub mod SetupLemmas
mod ReadLemmas
