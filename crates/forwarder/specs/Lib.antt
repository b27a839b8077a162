pub mod Walks
pub mod Records
pub mod Workspaces
pub mod Traces
pub mod Ways
pub mod Kept
