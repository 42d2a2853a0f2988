pub mod Tables
pub mod Names
pub mod Columns
pub mod Named
pub mod rows
