pub mod Functions
pub mod Serving
