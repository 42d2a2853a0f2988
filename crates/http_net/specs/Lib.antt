pub mod Allowances
pub mod Faults
pub mod Living
pub mod Served
pub mod Turns
pub mod Wire
