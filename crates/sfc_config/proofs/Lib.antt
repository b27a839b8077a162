pub mod PlacingLemmas
pub mod KeepingLemmas
pub mod RunLemmas
pub mod LawLemmas
pub mod ReadingLemmas
pub mod PrintLemmas
pub mod SaidLemmas
