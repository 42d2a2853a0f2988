pub mod Faults
pub mod Rows
pub mod Exporting
pub mod Lines
pub mod Gathering
