pub mod Layouts
pub mod Contents
pub mod States
pub mod Queries
pub mod Meanings
pub mod Effects
pub mod Streaming
pub mod Faults
