pub mod NshText
pub mod BgpText
pub mod BgpSteps
pub mod Showings
