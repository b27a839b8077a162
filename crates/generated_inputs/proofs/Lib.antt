-- The parts of the setup; routes that may be announced; segments that follow one another; what callers use of inputs.
pub mod SetupLemmas
pub mod RouteLemmas
pub mod SegmentLemmas
pub mod InputLemmas
