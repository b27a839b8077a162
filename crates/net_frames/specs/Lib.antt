pub mod Words
pub mod Checksums
pub mod Captured
pub mod Layouts
pub mod Contents
pub mod Edits
pub mod Right
