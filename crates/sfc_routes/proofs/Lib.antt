pub mod RosterLemmas
pub mod MemberLemmas
pub mod OrderLemmas
pub mod EditLemmas
pub mod FilterLemmas
pub mod WordLemmas
pub mod HistoryLemmas
pub mod MeaningLemmas
