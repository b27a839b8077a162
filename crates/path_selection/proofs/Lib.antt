pub mod RowLemmas
pub mod TableLemmas
pub mod Versions
pub mod OneAnswer
