-- Routes of a text may be announced; their UPDATE; the session that hears it; the file as a control file; what stands then.
pub mod RouteLemmas
pub mod UpdateLemmas
pub mod SessionLemmas
pub mod FileLemmas
pub mod AnnouncedLemmas
