pub mod Living
pub mod Restarting
pub mod Runs
pub mod Series
