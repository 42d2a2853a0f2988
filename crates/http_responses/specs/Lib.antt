pub mod Outages
pub mod Refusals
pub mod Responses
pub mod json
