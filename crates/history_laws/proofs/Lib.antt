-- Segments that a control file may have; edits of lists of routes that can always be made.
pub mod HistoryLemmas
pub mod EditExists
