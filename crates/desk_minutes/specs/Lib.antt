pub mod Fields
pub mod Follows
pub mod Growth
pub mod Lines
pub mod Minuted
pub mod Worked
