pub mod ServingLemmas
pub mod LawLemmas
