pub mod Halts
pub mod Reading
pub mod Ahead
pub mod Filling
pub mod Taking
