pub mod Exports
pub mod Numbers
pub mod People
pub mod Tokens
pub mod Words
