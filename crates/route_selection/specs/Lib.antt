pub mod Lowest
pub mod Usable
pub mod Accepted
pub mod Choices
pub mod Selections
pub mod Names
pub mod Taken
