pub mod Names
pub mod Lists
pub mod Ends
pub mod Lines
pub mod Records
pub mod Tables
pub mod Steps
pub mod DropReasons
