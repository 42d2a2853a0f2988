pub mod Desks
pub mod Acts
pub mod Pasts
pub mod Steps
