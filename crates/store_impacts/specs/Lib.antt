pub mod Passing
pub mod Reading
pub mod Steps
pub mod Touching
pub mod Barring
