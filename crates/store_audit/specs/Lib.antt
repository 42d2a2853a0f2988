pub mod Audits
pub mod Faults
pub mod Following
pub mod Rules
