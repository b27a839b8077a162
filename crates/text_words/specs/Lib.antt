pub mod Addresses
pub mod Hexadecimal
pub mod Lines
pub mod Names
pub mod Numbers
pub mod Pieces
pub mod Printing
pub mod Reading
