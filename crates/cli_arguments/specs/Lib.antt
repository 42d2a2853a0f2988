pub mod Alone
pub mod Calls
pub mod Lines
pub mod Meanings
pub mod Statuses
pub mod values
