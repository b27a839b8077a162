pub mod Segments
pub mod Refusals
pub mod Kept
pub mod Steps
pub mod Calls
pub mod Streams
pub mod Lending
pub mod Reads
