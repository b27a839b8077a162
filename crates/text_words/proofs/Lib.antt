pub mod PieceLemmas
pub mod LineLemmas
pub mod NumberLemmas
pub mod PrintingLemmas
pub mod HexLemmas
pub mod DottedLemmas
pub mod NameLemmas
