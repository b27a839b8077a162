pub mod Turning
pub mod Streams
