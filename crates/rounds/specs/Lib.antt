pub mod Rounds
pub mod Counted
pub mod Places
pub mod Says
pub mod Views
