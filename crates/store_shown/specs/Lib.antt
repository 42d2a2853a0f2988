pub mod Choosing
pub mod Happening
pub mod Lines
pub mod Searching
pub mod Steps
pub mod Telling
