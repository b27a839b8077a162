pub mod Parts
pub mod Drafts
pub mod Texts
pub mod Steps
pub mod Printed
