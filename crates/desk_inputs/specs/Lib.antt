pub mod Faults
pub mod ImageFacts
pub mod Parts
pub mod Tokens
pub mod imports
