pub mod Heads
pub mod Bodies
pub mod Fields
pub mod Limits
pub mod Parsed
