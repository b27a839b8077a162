pub mod Traces
pub mod Keeping
pub mod TraceRuns
