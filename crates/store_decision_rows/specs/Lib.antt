pub mod Confirming
pub mod Learning
pub mod Named
pub mod Steps
pub mod lists
pub mod remembered
pub mod sizes
