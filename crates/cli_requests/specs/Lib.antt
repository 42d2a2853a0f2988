pub mod Desks
pub mod Living
pub mod Works
