pub mod Endings
pub mod FaultLines
pub mod Faults
pub mod Files
pub mod ImpactLines
pub mod Listings
pub mod Statuses
pub mod VerdictLines
