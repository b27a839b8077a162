pub mod CourseLemmas
pub mod HistoryLemmas
pub mod GroupLemmas
pub mod OneRun
pub mod FitLemmas
pub mod SomeRun
