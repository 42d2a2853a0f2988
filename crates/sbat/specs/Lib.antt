pub mod Fields
pub mod Greatest
pub mod Levels
pub mod Refusals
pub mod Rows
pub mod Texts
pub mod Writing
