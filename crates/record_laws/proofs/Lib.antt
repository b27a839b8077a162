-- The tables of a record's versions as known ones; so what holds of a walk holds of a record, and of each record of a run.
pub mod NamedTables
pub mod WayLemmas
pub mod RunWays
