-- Frames stay bytes, headers keep a spelling; so each station hands over packets or none; rounds, and a trace.
pub mod FrameBytes
pub mod HeaderSpelled
pub mod TraceExists
pub mod RunExists
