pub mod Sizes
pub mod Steps
