pub mod AloneLemmas
pub mod AuditLemmas
pub mod LineLemmas
pub mod MeaningLemmas
pub mod WordLemmas
