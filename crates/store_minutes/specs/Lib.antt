pub mod Comparing
pub mod Faults
pub mod Following
pub mod Lines
pub mod Starts
pub mod Watches
