pub mod RouteLines
pub mod RouteTexts
pub mod Steps
pub mod Printed
pub mod Decisions
