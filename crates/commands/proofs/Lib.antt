pub mod CallLemmas
pub mod CommandLemmas
pub mod FrontLemmas
pub mod OutputLemmas
pub mod PlaceLemmas
pub mod WordLemmas
